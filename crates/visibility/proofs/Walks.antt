-- Ways of steps.
use Rattle.std.proofs.Common.{◌≡◌, ℕ, ◌+◌, ◌<◌, Bool, true, ◌||◌, List, [], ◌∷◌, ◌++◌, length, get_or, take, Decides, refl, inl, inr, sym, subst, ◌∙◌, arith}
use Rattle.std.proofs.lemmas.Bool.{cases_eq, or_cases, or_left, or_right}
use Rattle.std.proofs.lemmas.List.{take_more}
use Rattle.visibility.specs.declared.outline.Shape.{Shape}
use Rattle.visibility.specs.declared.terms.Letter.{Letter}
use Rattle.visibility.specs.Growth.{Rel}
use Rattle.visibility.specs.Terms.{Step, Walk}

module _ (f : List Shape) (v : Rel) where
  pub walk_more : (ls : List Letter) (l : Letter) (a c b : ℕ) → Walk f v ls a c → Step f v l c b → Walk f v (ls ++ l ∷ []) a b
  walk_more [] l a c b w s = (b, subst (λ x. Step f v l x b) (sym w) s, refl)
  walk_more (k ∷ ls) l a c b w s = (w.0, w.1, walk_more ls l w.0 c b w.2 s)

  pub walk_less : (ls : List Letter) (l : Letter) (a b : ℕ) → Walk f v (ls ++ l ∷ []) a b → (c : ℕ) × Walk f v ls a c × Step f v l c b
  walk_less [] l a b w = (a, refl, subst (Step f v l a) w.2 w.1)
  walk_less (k ∷ ls) l a b w = let r = walk_less ls l w.0 b w.2 in (r.0, (w.0, w.1, r.1), r.2)

  -- one letter more
  pub reached_more : (ls : List Letter) (n : ℕ) (d : Letter) (a : ℕ) (from to : ℕ → Bool) → n < length ls
      → ((c : ℕ) → Decides (from c) (Walk f v (take n ls) a c)) → ((b : ℕ) → Decides (to b) ((c : ℕ) × (from c ≡ true) × Step f v (get_or ls n d) c b))
      → (b : ℕ) → Decides (to b) (Walk f v (take (n + 1) ls) a b)
  reached_more ls n d a from to h is e b =
      let more = take_more ls n d h in (
        λ g. let s = (e b).0 g in subst (λ l. Walk f v l a b) (sym more) (walk_more (take n ls) (get_or ls n d) a s.0 b ((is s.0).0 s.1) s.2),
        λ w. let r = walk_less (take n ls) (get_or ls n d) a b (subst (λ l. Walk f v l a b) more w) in (e b).1 (r.0, (is r.0).1 r.1, r.2),
      )

-- one term more
pub joined_more : (P : ℕ → Type 0) (n : ℕ) (row one all : Bool) → Decides row ((i : ℕ) × (i < n) × P i) → Decides one (P n) → all ≡ (row || one) → Decides all ((i : ℕ) × (i < n + 1) × P i)
joined_more P n row one all d e is = (
  λ h. elim (or_cases row one (sym is ∙ h)) [
    | inl p ↦ let s = d.0 p in (s.0, omega (arith, s.1), s.2)
    | inr p ↦ (n, omega arith, e.0 p)
  ],
  λ s. elim (cases_eq s.0 n) [
    | inl z ↦ is ∙ or_right row one (e.1 (subst P z s.2))
    | inr z ↦ is ∙ or_left row one (d.1 (s.0, omega (arith, s.1), s.2))
  ],
)
