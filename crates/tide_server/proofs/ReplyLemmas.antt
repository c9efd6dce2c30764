-- Replies: one for each request, which further bytes don't change once they determine its row.
use Rattle.std.proofs.Common.{◌≡◌, ℕ, ℤ, List, ◌++◌, Some, ap, ◌∙◌, sym, subst}
use Rattle.std.specs.Prelude.{IsTrue, Result, Ok, Err, IfOk}
use Rattle.harmonics_book.specs.declared.book.Book.{Book}
use Rattle.station_table.specs.declared.offsets.Offsets.{Offsets}
use Rattle.http_rows.specs.Heads.{head_end}
use Rattle.tide_server.specs.Replies.{IsReply, reply_of}
use Rattle.http_rows.specs.Responses.{fixed_of}
use Rattle.http_rows.specs.Rows.{ReplyRow, rejects, asks, IsRow, is_settled}
use Rattle.http_rows.proofs.RowLemmas.{one_row_at, settled_stays}

pub one_reply_to : (book : Book) (table : List Offsets) (minute : ℤ) (request a b : List ℕ) → IsReply book table minute request a
    → IsReply book table minute request b → a ≡ b
one_reply_to book table minute request a b x y =
    x.2 ∙ ap (reply_of book table minute) (one_row_at (head_end request) request x.0 y.0 x.1 y.1) ∙ sym y.2

pub settled_reply_stays :
    (book : Book) (table : List Offsets) (minute : ℤ) (request more reply : List ℕ) (row : ReplyRow) → IsRow request row
    → IsTrue (is_settled row) → IsReply book table minute request reply → IsReply book table minute (request ++ more) reply
settled_reply_stays book table minute request more reply row is settled x =
    let same : row ≡ x.0 = one_row_at (head_end request) request row x.0 is x.1 in
    let S : ReplyRow → Type 0 = λ r. IsTrue (is_settled r) in
    (x.0, settled_stays request more x.0 x.1 (subst S same settled), x.2)

fixed_is : (book : Book) (table : List Offsets) (minute : ℤ) (reply : List ℕ) (row : ReplyRow) → fixed_of row ≡ Some reply
    → reply ≡ reply_of book table minute row
fixed_is book table minute reply (rejects rejection is_head_request) is = cc
fixed_is book table minute reply (asks asking) is = absurd (cc)

pub fixed_row_replies : (book : Book) (table : List Offsets) (minute : ℤ) (request reply : List ℕ) (row : ReplyRow) → IsRow request row
    → fixed_of row ≡ Some reply → IsReply book table minute request reply
fixed_row_replies book table minute request reply row is fixed = (row, is, fixed_is book table minute reply row fixed)

-- the reply to a request is the reply of its row
pub row_replies : {E : Type 0} (book : Book) (table : List Offsets) (minute : ℤ) (request : List ℕ) (row : ReplyRow)
    (result : Result (List ℕ) E)
    → IsRow request row → IfOk result (λ bytes. bytes ≡ reply_of book table minute row) → IfOk result (IsReply book table minute request)
row_replies book table minute request row (Ok bytes) is same = (row, is, same)
row_replies book table minute request row (Err fault) is same = tt
