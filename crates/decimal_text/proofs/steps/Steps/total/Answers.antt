use Rattle.decimal_text.proofs.StepsLemmas.{left_few}
use Rattle.decimal_text.proofs.steps.Steps.total.Goals as goal

pub power_of_ten-requires : goal.power_of_ten-requires
power_of_ten-requires c = left_few c.args.self.value c.args.self.remaining c.requires
