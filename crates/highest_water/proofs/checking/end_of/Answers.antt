use Rattle.std.proofs.Common.{◌∙◌, pos, w64, FitsSigned, ap, rules, refl}
use Rattle.std.proofs.lemmas.Int.{to_z-of_z}
use Rattle.curve_law.specs.declared.point.Point.{Point}
use Rattle.curve_law.proofs.QuietLemmas.{end-minute, end-fits, end-value}
use Rattle.highest_water.specs.Covers.{minutes_of}
use Rattle.highest_water.proofs.checking.end_of.Goals as goal

pub overflow_add-begin : goal.overflow_add-begin
overflow_add-begin g c =
    let fits : FitsSigned w64 c.from.result = search rules in
    let minutes = to_z-of_z w64 c.from.result fits ∙ c.from.ensures ∙ ap pos c.minutes_of.ensures in
    end-fits (g.C.Curve.state c.args.curve.now).curve_model.curve_spec c.args.begin _ (minutes_of c.args.cell)
    (g.met.C.Curve.lawful c.args.curve.now) c.requires.span minutes

pub point_at-requires-clause-minute : goal.point_at-requires-clause-minute
point_at-requires-clause-minute g c =
    let fits : FitsSigned w64 c.from.result = search rules in
    let minutes = to_z-of_z w64 c.from.result fits ∙ c.from.ensures ∙ ap pos c.minutes_of.ensures in
    let curve_spec = (g.C.Curve.state c.args.curve.now).curve_model.curve_spec in
    rw (end-value curve_spec c.args.begin _ (minutes_of c.args.cell) (g.met.C.Curve.lawful c.args.curve.now)
    c.requires.span minutes) (end-minute curve_spec c.args.begin (minutes_of c.args.cell) c.requires.span)

pub returns-clause-minute : goal.returns-clause-minute
returns-clause-minute g c =
    let fits : FitsSigned w64 c.from.result = search rules in
    let minutes = to_z-of_z w64 c.from.result fits ∙ c.from.ensures ∙ ap pos c.minutes_of.ensures in
    ap (λ (p : Point). p.minute) c.point_at.ensures.point
    ∙ end-value (g.C.Curve.state c.args.curve.now).curve_model.curve_spec c.args.begin _ (minutes_of c.args.cell)
    (g.met.C.Curve.lawful c.args.curve.now) c.requires.span minutes

pub returns-clause-value : goal.returns-clause-value
returns-clause-value g c = rw c.point_at.ensures.point refl
