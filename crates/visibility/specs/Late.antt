-- What the making of a late rule answers.
use Rattle.std.specs.Prelude.{◌≡◌, ℕ, ◌<◌, ◌≤◌, ◌⊎◌, Ok, Err, Result}
use Rattle.visibility.specs.declared.late.Late.{Late}
use Rattle.visibility.specs.declared.late.LateRefusal.{LateRefusal}
use Rattle.visibility.specs.declared.late.LateRefusal.TheVariants.{Distance}

abbrev pub number_of : LateRefusal → ℕ
number_of Distance = 16

-- the rule has the distance; or the distance is 0 or above 255
abbrev pub LateAnswer : ℕ → Result Late LateRefusal → Type 0
LateAnswer distance (Ok r) = (1 ≤ distance) × (distance ≤ 255) × (r.distance ≡ distance)
LateAnswer distance (Err e) = (distance ≡ 0) ⊎ (255 < distance)
