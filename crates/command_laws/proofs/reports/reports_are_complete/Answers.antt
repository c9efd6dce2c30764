use Rattle.command_laws.proofs.ReportLemmas.{complete_reports}
use Rattle.command_laws.proofs.reports.reports_are_complete.Goals as goal

pub returns : goal.returns
returns c = complete_reports
