use Rattle.std.proofs.lemmas.Int.{to_z-of_z}
use mir.Syntax.{w128}
use Rattle.curve_law.proofs.ApproximateLemmas.{size_less-fits, size_less-value, size_less-far, size_more-fits, size_more-value, size_more-close}
use Rattle.curve_law.proofs.approximate.passes.Goals as goal

pub overflow_sub-size : goal.overflow_sub-size
overflow_sub-size c =
    let size = rw (to_z-of_z w128 c.args.approximate c.ranges.approximate) at c.abs-size.ensures.value in
    size_less-fits c.args.approximate c.abs-size.result c.args.error size c.requires.approximate c.requires.least c.requires.error_bound

pub overflow_add-size : goal.overflow_add-size
overflow_add-size c =
    let size = rw (to_z-of_z w128 c.args.approximate c.ranges.approximate) at c.abs-size.ensures.value in
    size_more-fits c.args.approximate c.abs-size.result c.args.error size c.requires.approximate c.requires.least c.requires.error_bound

pub returns-then-size-error : goal.returns-then-size-error
returns-then-size-error c = λ sum close.
    let size = rw (to_z-of_z w128 c.args.approximate c.ranges.approximate) at c.abs-size.ensures.value in
    let most = to_z-of_z w128 c.args.most c.ranges.most in
    let less =
    size_less-value c.args.approximate c.abs-size.result c.args.error size c.requires.approximate c.requires.least c.requires.error_bound in
    size_less-far c.args.approximate c.abs-size.result c.args.error c.args.most sum size c.requires.least
    (rw (less, most) at c.if-size-error.true) close

pub returns-then-size-error-2 : goal.returns-then-size-error-2
returns-then-size-error-2 c = λ sum close.
    let size = rw (to_z-of_z w128 c.args.approximate c.ranges.approximate) at c.abs-size.ensures.value in
    let most = to_z-of_z w128 c.args.most c.ranges.most in
    let more =
    size_more-value c.args.approximate c.abs-size.result c.args.error size c.requires.approximate c.requires.least c.requires.error_bound in
    size_more-close c.args.approximate c.abs-size.result c.args.error c.args.most sum size c.requires.least
    (rw (more, most) at c.if-size-error-2.true) close
