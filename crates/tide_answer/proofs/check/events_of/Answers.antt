use Rattle.std.proofs.Common.{FitsSigned, w64, rules}
use Rattle.std.proofs.lemmas.Int.{to_z-of_z}
use Rattle.tide_answer.proofs.CheckLemmas.{found_lines, found_list, found_movable, found_short, ok_has, ok_same}
use Rattle.tide_answer.proofs.check.events_of.Goals as goal

pub merged-requires-clause-count_bound : goal.merged-requires-clause-count_bound
merged-requires-clause-count_bound c =
    found_short c.args.found_station.now c.args.cert.now c.requires.purpose c.requires.same c.requires.cert c.requires.valid

pub shifted-requires-clause-events : goal.shifted-requires-clause-events
shifted-requires-clause-events c =
    let from : FitsSigned w64 c.args.found_station.now.span.begin = search rules in
    let events = simp to_z-of_z at c.in_ok-events.ensures in
    found_movable c.args.found_station.now c.args.cert.now c.in_ok-events.events c.requires.purpose c.requires.same events
    c.requires.cert c.requires.valid

pub returns-clause-exact : goal.returns-clause-exact
returns-clause-exact c =
    let from : FitsSigned w64 c.args.found_station.now.span.begin = search rules in
    let begin : FitsSigned w64 c.args.found_station.now.span_request.begin = search rules in
    let end : FitsSigned w64 c.args.found_station.now.span_request.end = search rules in
    let events = simp to_z-of_z at c.in_ok-events.ensures in
    let shifted = simp to_z-of_z at c.shifted.ensures in
    let all = found_list c.args.found_station.now c.args.cert.now c.in_ok-events.events c.requires.purpose c.requires.same events
    c.requires.cert c.requires.valid in
    ok_same _ _ c.shifted.result _ _ all shifted

pub returns-clause-listed : goal.returns-clause-listed
returns-clause-listed c =
    let from : FitsSigned w64 c.args.found_station.now.span.begin = search rules in
    let begin : FitsSigned w64 c.args.found_station.now.span_request.begin = search rules in
    let end : FitsSigned w64 c.args.found_station.now.span_request.end = search rules in
    let events = simp to_z-of_z at c.in_ok-events.ensures in
    let shifted = simp to_z-of_z at c.shifted.ensures in
    let all = found_list c.args.found_station.now c.args.cert.now c.in_ok-events.events c.requires.purpose c.requires.same events
    c.requires.cert c.requires.valid in
    ok_has _ _ c.shifted.result _ _ (rw all (found_lines c.args.found_station.now c.args.cert.now c.requires.purpose c.requires.same)) shifted
