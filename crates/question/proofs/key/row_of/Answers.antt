use Rattle.std.proofs.Common.{rules}
use Rattle.question.proofs.key.row_of.Goals as goal

pub returns-in-File : goal.returns-in-File
returns-in-File c = rw c.in-File.is (search rules)

pub returns-in-Offsets : goal.returns-in-Offsets
returns-in-Offsets c = rw c.in-Offsets.is (search rules)

pub returns-in-Certificate : goal.returns-in-Certificate
returns-in-Certificate c = rw c.in-Certificate.is (search rules)

pub returns-in-Station : goal.returns-in-Station
returns-in-Station c = rw c.in-Station.is (search rules)

pub returns-in-Begin : goal.returns-in-Begin
returns-in-Begin c = rw c.in-Begin.is (search rules)

pub returns-in-End : goal.returns-in-End
returns-in-End c = rw c.in-End.is (search rules)

pub returns-in-Mark : goal.returns-in-Mark
returns-in-Mark c = rw c.in-Mark.is (search rules)

pub returns-in-Step : goal.returns-in-Step
returns-in-Step c = rw c.in-Step.is (search rules)

pub returns-in-Zone : goal.returns-in-Zone
returns-in-Zone c = rw c.in-Zone.is (search rules)

pub returns-in-Layout : goal.returns-in-Layout
returns-in-Layout c = rw c.in-Layout.is (search rules)

pub returns-in-Seed : goal.returns-in-Seed
returns-in-Seed c = rw c.in-Seed.is (search rules)

pub returns-in-Port : goal.returns-in-Port
returns-in-Port c = rw c.in-Port.is (search rules)

pub returns-in-Sheets : goal.returns-in-Sheets
returns-in-Sheets c = rw c.in-Sheets.is (search rules)
