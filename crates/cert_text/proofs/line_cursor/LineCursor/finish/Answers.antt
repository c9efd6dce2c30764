use Rattle.std.proofs.Common.{◌≡◌, ◌==◌, false, length, refl, sym, ◌∙◌}
use Rattle.cert_text.proofs.CutLemmas.{is_over-bytes}
use Rattle.cert_text.proofs.line_cursor.LineCursor.finish.Goals as goal

pub returns-else-is_empty : goal.returns-else-is_empty
returns-else-is_empty c =
    let some : (length c.self.inside.rest.now == 0) ≡ false = sym c.is_empty.ensures ∙ c.if-is_empty.false in
    rw (← c.self.view_is, is_over-bytes c.self.inside.rest.now, some) refl
