use Rattle.std.proofs.Common.{◌≡◌, ◌+◌, ◌-◌, ◌∙◌, arith}
use Rattle.fixed_sine.proofs.TableLemmas.{degree-first, degree-second, degree-fits}
use Rattle.fixed_sine.proofs.degrees.degree_at.Goals as goal

pub returns-clause-first : goal.returns-clause-first
returns-clause-first c =
    let fits = degree-fits c.args.degrees c.requires in
    λ first.
    let row = degree-first c.args.degrees first in
    (fits.sine_kept ∙ row.1, rw (fits.slope_kept, fits.bend_kept) row.0)

pub returns-clause-second : goal.returns-clause-second
returns-clause-second c =
    let fits = degree-fits c.args.degrees c.requires in
    λ second.
    let here : (c.args.degrees - 180) + 180 ≡ c.args.degrees = omega (arith, second) in
    let row = rw here at (degree-second (c.args.degrees - 180) (omega (arith, c.requires))) in
    (fits.sine_kept ∙ row.1, rw (fits.slope_kept, fits.bend_kept) row.0)

pub returns-clause-slope_size : goal.returns-clause-slope_size
returns-clause-slope_size c =
    let fits = degree-fits c.args.degrees c.requires in rw fits.slope_kept fits.slope

pub returns-clause-bend_size : goal.returns-clause-bend_size
returns-clause-bend_size c =
    let fits = degree-fits c.args.degrees c.requires in rw fits.bend_kept fits.bend
