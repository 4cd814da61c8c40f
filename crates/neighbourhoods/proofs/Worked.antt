-- The worked examples, by computation. Assumes nothing.
use Rattle.std.proofs.Common.{refl}
use Rattle.morphology.specs.Tile.{row, column}
use Rattle.morphology.specs.Tables.{ways, weak_table, symmetric_table, weak, symmetric}
use Rattle.morphology.specs.Pictures.{operator}
use Rattle.maps.specs.Grounds.{near_at}
use Rattle.neighbourhoods.specs.Examples.{ReachExamples, FilterExamples}

pub reach_examples : ReachExamples
unfolding row column ways weak_table symmetric_table weak symmetric near_at
reach_examples = record { weak_of_0 = refl; weak_of_1 = refl; symmetric_of_0 = refl; symmetric_of_1 = refl; symmetric_of_3 = refl }

pub filter_examples : FilterExamples
unfolding row column ways weak_table symmetric_table weak symmetric near_at operator
filter_examples = record { dilate_1 = refl; erode_1 = refl; close_1 = refl; close_2 = refl }
