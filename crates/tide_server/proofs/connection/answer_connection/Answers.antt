use Rattle.std.proofs.Common.{◌≡◌, ◌≢◌, ◌∙◌, [], false, true, arith, refl, sym}
use Rattle.std.specs.Prelude.{◌==◌, ◌||◌, is_err}
use Rattle.std.proofs.lemmas.Grind.{common_steps}
use Rattle.http_rows.specs.Rows.{is_settled}
use Rattle.http_rows.specs.Workings.Views.{row_seen}
use Rattle.tide_server.proofs.AnswerLemmas.{went_by_row, went_silent, went_unread}
use Rattle.tide_server.proofs.ConnectionLemmas.{OneMore, few, goes_on, has_failed, has_read, not_enough, not_settled, over_none, over_row, read_none, still_open, still_open_after, unsettled}
use Rattle.tide_server.proofs.connection.answer_connection.Goals as goal

pub loop-count-init : goal.loop-count-init
loop-count-init g c =
    rw c.clear.ensures
    (record { waits = not_enough; short = omega arith; clock = refl; read = read_none (g.D.Door.state c.args.door.now) c.requires.fresh })

pub read_more-requires-clause-open : goal.read_more-requires-clause-open
read_more-requires-clause-open g c =
    rw (still_open (g.D.Door.state c.args.door.now)
    (g.D.Door.state c.loop-count.door) c.loop-count.request c.loop-count.invariant.read)
    c.requires.is_open

pub returns-in_default : goal.returns-in_default
returns-in_default g c =
    rw c.loop-count.invariant.clock
    (went_unread c.args.served_data.now c.loop-count.request (g.D.Door.state c.args.door.now)
    (g.D.Door.state c.read_more.new.door) (g.K.Clock.state c.args.clock.now)
    (has_failed (g.D.Door.state c.args.door.now) (g.D.Door.state c.loop-count.door) (g.D.Door.state c.read_more.new.door)
    c.loop-count.request c.in_default.ensures.after.0 _ c.loop-count.invariant.read c.loop-count.invariant.waits
    c.in_default.ensures.after.1))

pub returns-then-is_empty : goal.returns-then-is_empty
returns-then-is_empty g c =
    let first = g.D.Door.state c.args.door.now in
    let now = g.D.Door.state c.loop-count.door in
    let after = g.D.Door.state c.read_more.new.door in
    let more : OneMore now c.loop-count.request c.read_more.new.self c.in-Ok.count after =
    record {
      buffer = c.in-Ok.ensures.after.0;
      door = c.in-Ok.ensures.after.1;
      came = c.in-Ok.ensures.after.2;
      longer = c.in-Ok.ensures.longer;
      within = c.in-Ok.ensures.within;
    } in
    let empty : c.read_more.new.self ≡ [] =
    sym c.as_slice-bytes.ensures ∙ grind (arith, common_steps, c.is_empty.ensures, c.if-is_empty.true) in
    let none : c.in-Ok.count ≡ 0 = grind (arith, common_steps, c.in-Ok.ensures.longer, empty) in
    rw c.loop-count.invariant.clock
    (went_silent c.args.served_data.now first after (g.K.Clock.state c.args.clock.now)
    (rw empty at (has_read first now after c.loop-count.request c.read_more.new.self c.in-Ok.count c.loop-count.invariant.read
    c.loop-count.invariant.waits more (over_none c.in-Ok.count c.read_more.new.self none))))

pub answer_row-requires-clause-is_open : goal.answer_row-requires-clause-is_open
answer_row-requires-clause-is_open g c =
    let now = g.D.Door.state c.loop-count.door in
    let more : OneMore now c.loop-count.request c.read_more.new.self c.in-Ok.count (g.D.Door.state c.read_more.new.door) =
    record {
      buffer = c.in-Ok.ensures.after.0;
      door = c.in-Ok.ensures.after.1;
      came = c.in-Ok.ensures.after.2;
      longer = c.in-Ok.ensures.longer;
      within = c.in-Ok.ensures.within;
    } in
    rw (still_open_after (g.D.Door.state c.args.door.now) now
    (g.D.Door.state c.read_more.new.door) c.loop-count.request c.read_more.new.self
    c.in-Ok.count c.loop-count.invariant.read more) c.requires.is_open

pub returns-then-ends_reading : goal.returns-then-ends_reading
returns-then-ends_reading g c =
    let first = g.D.Door.state c.args.door.now in
    let now = g.D.Door.state c.loop-count.door in
    let after = g.D.Door.state c.read_more.new.door in
    let row = row_seen c.row_for-row.result in
    let more : OneMore now c.loop-count.request c.read_more.new.self c.in-Ok.count after =
    record {
      buffer = c.in-Ok.ensures.after.0;
      door = c.in-Ok.ensures.after.1;
      came = c.in-Ok.ensures.after.2;
      longer = c.in-Ok.ensures.longer;
      within = c.in-Ok.ensures.within;
    } in
    let some : c.read_more.new.self ≢ [] =
    λ none. grind (arith, common_steps, c.is_empty.ensures, c.if-is_empty.false, c.as_slice-bytes.ensures, none) in
    let row_is = rw c.as_slice-bytes.ensures at c.row_for-row.ensures.row in
    let ends : (c.in-Ok.count == 0 || is_settled row) ≡ true = sym c.ends_reading.ensures ∙ c.if-ends_reading.true in
    went_by_row (is_err c.answer_row.result) c.args.served_data.now row c.read_more.new.self first after
    (g.D.Door.state c.answer_row.new.door)
    (g.K.Clock.state c.args.clock.now) (g.K.Clock.state c.answer_row.new.clock)
    (has_read first now after c.loop-count.request c.read_more.new.self c.in-Ok.count c.loop-count.invariant.read
    c.loop-count.invariant.waits more (over_row c.in-Ok.count c.read_more.new.self row ends row_is))
    some row_is
    (rw c.loop-count.invariant.clock at c.answer_row.ensures)

pub loop-count-preserved : goal.loop-count-preserved
loop-count-preserved g c =
    let row = row_seen c.row_for-row.result in
    let is = rw c.as_slice-bytes.ensures at c.row_for-row.ensures.row in
    let none : is_settled row ≡ false =
    not_settled (c.in-Ok.count == 0) (is_settled row) (sym c.ends_reading.ensures ∙ c.if-ends_reading.false) in record {
      waits = unsettled c.read_more.new.self row is none;
      short = few c.read_more.new.self row is none;
      clock = c.loop-count.invariant.clock;
      read =
          goes_on (g.D.Door.state c.args.door.now) (g.D.Door.state c.loop-count.door) (g.D.Door.state c.read_more.new.door)
          c.loop-count.request c.read_more.new.self (is_settled row) c.in-Ok.count c.loop-count.invariant.read
          (record {
            buffer = c.in-Ok.ensures.after.0;
            door = c.in-Ok.ensures.after.1;
            came = c.in-Ok.ensures.after.2;
            longer = c.in-Ok.ensures.longer;
            within = c.in-Ok.ensures.within;
          })
          (sym c.ends_reading.ensures ∙ c.if-ends_reading.false);
    }
