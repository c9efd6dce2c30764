use Rattle.zone_time.proofs.ZoneFileLemmas.{seconds_ahead-offset_at}
use Rattle.zone_time.proofs.ZoneReadingLemmas.{goes_on-Decides}
use Rattle.zone_time.proofs.laws.zone_files_go_by_jiff.Goals as goal

pub returns-clause-utc_offset : goal.returns-clause-utc_offset
returns-clause-utc_offset c = seconds_ahead-offset_at

pub returns-clause-rule : goal.returns-clause-rule
returns-clause-rule c = goes_on-Decides
