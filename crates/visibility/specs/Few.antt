-- What a list of few items holds.
use Rattle.std.specs.Prelude.{ℕ, List, take}
use Rattle.visibility.specs.declared.few.Few.{Few}

abbrev pub items_of : {T : Type 0} {N : ℕ} → Few T N → List T
items_of f = take f.count f.items
