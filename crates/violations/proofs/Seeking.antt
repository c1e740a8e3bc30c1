-- What is not found below a number, and what is found first.
use Rattle.std.proofs.Common.{◌≡◌, ℕ, ◌+◌, ◌<◌, Bool, true, false, not, ◌&&◌, Some, None, Decides, Option, sym, refl, ap, ◌∙◌, subst, inl, inr, true≢false, arith}
use Rattle.std.proofs.lemmas.Bool.{cases_eq, and_parts}
use Rattle.rows.specs.declared.row.Row.{Row}
use Rattle.rows.specs.Members.{member}
use Rattle.violations.specs.declared.evidence.Rivals.{Rivals}
use Rattle.violations.specs.Firsts.{Smallest, SmallestRivals}
use Rattle.violations.specs.Overtaking.{Says, FoundRival, FoundRivals}

-- one number more, for pairs by the first number
pub none_more : (P : ℕ → ℕ → Type 0) (n : ℕ) → ((k l : ℕ) → k < n → ¬ P k l) → ((l : ℕ) → ¬ P n l) → (k l : ℕ) → k < n + 1 → ¬ P k l
none_more P n before here k l h = elim (cases_eq k n) [
  | inl e ↦ subst (λ x. ¬ P x l) (sym e) (here l)
  | inr e ↦ before k l (omega arith)
]

-- the first member of which a test says yes, as `Found` has it
abbrev pub FoundFirst : (ℕ → Bool) → (ℕ → Type 0) → (ℕ → Type 0) → Option ℕ → Type 0
FoundFirst M Yes No None = (k : ℕ) → M k ≡ true → No k
FoundFirst M Yes No (Some b) = (M b ≡ true) × Yes b × ((k : ℕ) → k < b → M k ≡ true → No k)

-- is the smallest number with P, where the test decides P, and P holds of members only
pub smallest_found : (P : ℕ → Type 0) (M : ℕ → Bool) (Yes No : ℕ → Type 0) (r : Option ℕ) → FoundFirst M Yes No r → ((k : ℕ) → P k → M k ≡ true) → ((k : ℕ) → Yes k → P k) → ((k : ℕ) → No k → ¬ P k) → Smallest P r
smallest_found P M Yes No None f m y n = λ k p. n k (f k (m k p)) p
smallest_found P M Yes No (Some b) f m y n = (y b f.1, λ k h p. n k (f.2 k h (m k p)) p)

-- where the answered rows decide A, what they lack is not A
lacked : (A : ℕ → Type 0) (Answered : Row → Type 0) → ((row : Row) → Answered row → (x : ℕ) → Decides (member row x) (A x)) → (x : ℕ) → Says Answered x false → ¬ A x
lacked A Answered d x s a = true≢false (sym ((d s.0 s.1 x).1 a) ∙ s.2)

-- the first rivals in the answered rows, where these decide A, are the first of P and A
pub smallest_rivals : (Q P : ℕ → ℕ → ℕ → Type 0) (A : ℕ → ℕ → Type 0) (Answered : ℕ → Row → Type 0) (t : Option Rivals) → FoundRivals P Answered t
    → ((r w x : ℕ) → P r w x → A w x → Q r w x) → ((r w x : ℕ) → Q r w x → P r w x × A w x) → ((w : ℕ) (row : Row) → Answered w row → (x : ℕ) → Decides (member row x) (A w x)) → SmallestRivals Q t
smallest_rivals Q P A Answered None f q p d = λ r w x h. let z = p r w x h in lacked (A w) (Answered w) (d w) x (f r w x z.0) z.1
smallest_rivals Q P A Answered (Some t) f q p d = (
  q t.read t.source t.rival f.0 (let s = f.1 in (d t.source s.0 s.1 t.rival).0 s.2),
  λ r w x l h. let z = p r w x h in lacked (A w) (Answered w) (d w) x (f.2 r w x l z.0) z.1,
  λ w x l h. let z = p t.read w x h in lacked (A w) (Answered w) (d w) x (f.3 w x l z.0) z.1,
)

-- P does not hold below a number: where it holds, and the set of the row's members from that number on lacks it, the row lacks it
absent : (P : ℕ → Type 0) (row : Row) (M B : ℕ → Bool) (first : ℕ) → ((k : ℕ) → M k ≡ (member row k && not (B k))) → ((k : ℕ) → B k ≡ true → k < first)
    → ((k : ℕ) → k < first → ¬ P k) → (x : ℕ) → P x → ¬ (M x ≡ true) → member row x ≡ false
absent P row M B first e b before x p m = go (member row x) (B x) refl refl
  where
    go : (u v : Bool) → member row x ≡ u → B x ≡ v → u ≡ false
    go false v h k = refl
    go true true h k = absurd (before x (b x k) p)
    go true false h k = absurd (m (e x ∙ ap (λ z. z && not (B x)) h ∙ ap not k))

-- the first rival that is found in the answered row from the first rival on is the first of all
pub rival_found : (P : ℕ → Type 0) (Answered : Row → Type 0) (row : Row) (M B : ℕ → Bool) (Yes No : ℕ → Type 0) (first : ℕ) (r : Option ℕ) → FoundFirst M Yes No r
    → ((k : ℕ) → M k ≡ (member row k && not (B k))) → ((k : ℕ) → B k ≡ true → k < first) → ((k : ℕ) → k < first → ¬ P k) → ((k : ℕ) → Yes k → P k) → ((k : ℕ) → No k → ¬ P k) → Answered row → FoundRival P Answered r
rival_found P Answered row M B Yes No first None f e b before y n a = λ x p. (row, a, absent P row M B first e b before x p (λ m. n x (f x m) p))
rival_found P Answered row M B Yes No first (Some k) f e b before y n a =
    (y k f.1, (row, a, (and_parts (member row k) (not (B k)) (sym (e k) ∙ f.0)).0), λ x l p. (row, a, absent P row M B first e b before x p (λ m. n x (f.2 x l m) p)))
