use Rattle.std.proofs.Common.{refl}
use Rattle.std.specs.Fmt.{digits}
use Rattle.http_rows.specs.Responses.{status_of, code_of, body_of, allow_of}
use Rattle.http_rows.proofs.worked.worked_replies.Goals as goal

pub returns-clause-left_out : goal.returns-clause-left_out
unfolding digits status_of code_of body_of allow_of
returns-clause-left_out c = refl
