use Rattle.std.proofs.Common.{inl, inr, refl}
use Rattle.named_files.specs.declared.run_fault.RunFault.TheVariants.{Faulty, Refused}
use Rattle.named_files.proofs.ReportingLemmas.{reported_as_it_is}
use Rattle.named_files.proofs.reporting.report.Goals as goal

pub returns-in-Unread-clause-reported : goal.returns-in-Unread-clause-reported
returns-in-Unread-clause-reported g c = rw c.in-Unread.is (inl (c.refuse.ensures.same, c.refuse.ensures.line))

pub returns-in-Faulty-clause-reported : goal.returns-in-Faulty-clause-reported
returns-in-Faulty-clause-reported g c =
    let reported = rw c.new-table.ensures at c.report_fault.ensures in
    rw c.in-Faulty.is (elim reported [ inl t ↦ inl t | inr t ↦ inr (t.0, refl, t.1) ])

pub returns-in-Faulty-clause-read : goal.returns-in-Faulty-clause-read
returns-in-Faulty-clause-read g c =
    rw c.in-Faulty.is (elim c.report_fault.ensures [ inl t ↦ rw t.0 (reported_as_it_is (Faulty c.in-Faulty.fault)) | inr t ↦ rw t.0 refl ])

pub returns-in-Refused-clause-reported : goal.returns-in-Refused-clause-reported
returns-in-Refused-clause-reported g c =
    rw c.in-Refused.is (elim c.report_fault-in-Refused.ensures [ inl t ↦ inl t | inr t ↦ inr (t.0, refl, t.1) ])

pub returns-in-Refused-clause-read : goal.returns-in-Refused-clause-read
returns-in-Refused-clause-read g c =
    rw c.in-Refused.is
    (elim c.report_fault-in-Refused.ensures
    [ inl t ↦ rw t.0 (reported_as_it_is (Refused c.in-Refused.refusal c.in-Refused.table)) | inr t ↦ rw t.0 refl ])
