use Rattle.tide_desk.specs.Promises.{states}
use Rattle.tide_desk.proofs.CompletenessLemmas.{accepts_valid_peaks, valid_peak_if_accepted}
use Rattle.tide_desk.proofs.completeness.valid_peaks_are_accepted.Goals as goal

pub returns-clause-valid : goal.returns-clause-valid
returns-clause-valid g c =
    accepts_valid_peaks (states g.F.Files.state g.O.Sink.state g.E.Sink.state g.K.Clock.state) c.what_peakcheck_accepts_is_true.ensures

pub returns-clause-no_other : goal.returns-clause-no_other
returns-clause-no_other g c = valid_peak_if_accepted
