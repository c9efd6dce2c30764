use Rattle.std.proofs.Common.{refl}
use Rattle.harmonics_text.proofs.Worked.{empty_is, pier_is}
use Rattle.named_files.specs.Readings.{book_named, certificate_named, files_in, table_named, zone_named}
use Rattle.named_files.proofs.worked.worked_files.Goals as goal

pub returns-clause-form_before_table : goal.returns-clause-form_before_table
unfolding files_in book_named
returns-clause-form_before_table c = rw empty_is refl

pub returns-clause-alone : goal.returns-clause-alone
unfolding files_in book_named table_named zone_named certificate_named
returns-clause-alone c = rw pier_is refl

pub returns-clause-absent_table : goal.returns-clause-absent_table
unfolding files_in book_named table_named
returns-clause-absent_table c = rw pier_is refl

pub returns-clause-absent_zone : goal.returns-clause-absent_zone
unfolding files_in book_named table_named zone_named
returns-clause-absent_zone c = rw pier_is refl

pub returns-clause-absent_certificate : goal.returns-clause-absent_certificate
unfolding files_in book_named table_named zone_named certificate_named
returns-clause-absent_certificate c = rw pier_is refl
