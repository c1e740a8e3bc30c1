use Rattle.relation.proofs.Cycles.{extension_theorem, union_theorem}
use Rattle.relation.proofs.Places.{places_theorem}
use Rattle.relation.proofs.theory.order_theory.Goals as goal

pub returns : goal.returns
returns c = record { extension = extension_theorem; cycle_of_union = union_theorem; places = places_theorem }
