use Rattle.std.proofs.Common.{◌∙◌, ap, sym}
use Rattle.std.specs.Option.{option_map}
use Rattle.tide_edge.specs.Workings.OpenFile.{bytes_at}
use Rattle.tide_edge.proofs.PlaceLemmas.{folder_at_place}
use Rattle.tide_edge.proofs.files.in_memory.index_of_file.Goals as goal

pub returns : goal.returns
returns c =
    folder_at_place c.args.files.now c.args.name.now
    ∙ ap (option_map (bytes_at c.args.files.now)) (sym c.first_named.ensures)
