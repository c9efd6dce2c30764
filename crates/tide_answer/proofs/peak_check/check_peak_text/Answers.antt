use Rattle.tide_answer.specs.Answers.{peak_checked}
use Rattle.tide_answer.specs.Workings.Peaks.{peak_judged_in}
use Rattle.tide_answer.proofs.peak_check.check_peak_text.Goals as goal

pub returns : goal.returns
unfolding peak_checked peak_judged_in
returns c = rw c.in_ok-cert.ensures.exact c.judge_peak.ensures
