use lib.Utf8.{encode}
use Rattle.std.proofs.Common.{refl}
use Rattle.std.specs.Fmt.{digits}
use Rattle.std.specs.Str.{chars, is_utf8}
use Rattle.std.specs.Str.Lossy.{utf8_error_len, utf8_lossy, utf8_valid_len}
use Rattle.form_urlencoded.proofs.OnLiterals.{form_urlencoded_on_literals}
use Rattle.question.specs.Forms.{zone_of}
use Rattle.question.specs.Questions.{question_of, with_item, with_items}
use Rattle.tide_fault.specs.Faults.{ask_line, line_of}
use Rattle.tide_server.specs.Queries.{decoded_text}
use Rattle.tide_server.specs.Replies.{asking_reply, question_reply}
use Rattle.http_rows.specs.Responses.{status_of}
use Rattle.tide_server.proofs.worked.worked_answers.Goals as goal

pub returns-clause-none_asked : goal.returns-clause-none_asked
unfolding form_urlencoded_on_literals chars encode is_utf8 utf8_error_len utf8_lossy utf8_valid_len decoded_text digits
    zone_of question_of with_item with_items ask_line line_of asking_reply question_reply status_of
returns-clause-none_asked c = λ book table minute. refl

pub returns-clause-head_alone : goal.returns-clause-head_alone
unfolding form_urlencoded_on_literals chars encode is_utf8 utf8_error_len utf8_lossy utf8_valid_len decoded_text digits
    question_of with_item with_items ask_line line_of asking_reply question_reply status_of
returns-clause-head_alone c = λ book table minute. refl
