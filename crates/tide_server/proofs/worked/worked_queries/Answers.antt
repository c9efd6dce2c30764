use lib.Utf8.{encode}
use Rattle.std.proofs.Common.{refl}
use Rattle.std.specs.Str.{chars, is_utf8}
use Rattle.std.specs.Str.Lossy.{utf8_error_len, utf8_lossy, utf8_valid_len}
use Rattle.form_urlencoded.proofs.OnLiterals.{form_urlencoded_on_literals}
use Rattle.tide_server.specs.Queries.{decoded_text}
use Rattle.tide_server.proofs.worked.worked_queries.Goals as goal

pub returns-clause-items : goal.returns-clause-items
unfolding form_urlencoded_on_literals chars encode is_utf8 utf8_error_len utf8_lossy utf8_valid_len decoded_text
returns-clause-items c = refl

pub returns-clause-no_text : goal.returns-clause-no_text
unfolding form_urlencoded_on_literals chars encode is_utf8 utf8_error_len utf8_lossy utf8_valid_len decoded_text
returns-clause-no_text c = refl
