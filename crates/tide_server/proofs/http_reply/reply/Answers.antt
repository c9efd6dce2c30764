use Rattle.std.proofs.Common.{w64, FitsSigned}
use Rattle.std.proofs.lemmas.Int.{to_z-of_z}
use Rattle.http_rows.specs.Rows.{rejects, asks}
use Rattle.http_rows.specs.Workings.Views.{asking_seen}
use Rattle.tide_server.proofs.ReplyLemmas.{row_replies}
use Rattle.tide_server.proofs.http_reply.reply.Goals as goal

pub returns-in-Rejects : goal.returns-in-Rejects
returns-in-Rejects c =
    row_replies c.args.book.now c.args.table.now c.args.now c.args.request.now (rejects c.in-Rejects.rejection c.in-Rejects.is_head_request)
    c.rejection_reply.result c.in-Rejects.ensures.row c.rejection_reply.ensures

pub returns-in-Asks : goal.returns-in-Asks
returns-in-Asks c =
    let now : FitsSigned w64 c.args.now = c.ranges.now in
    let same = rw c.new.ensures at (simp to_z-of_z at c.whole_reply.ensures) in
    row_replies c.args.book.now c.args.table.now c.args.now c.args.request.now (asks (asking_seen c.in-Asks.asking))
    c.whole_reply.result c.in-Asks.ensures.row same
