-- One row, one round: what they do to a table.
use Rattle.std.proofs.Common.{◌≡◌, ℕ, ◌+◌, ◌*◌, ◌/◌, ◌%◌, ◌<◌, ◌≤◌, Bool, true, false, ◌||◌, List, length, Decides, sym, refl, ap, ◌∙◌, subst, ap₂, inl, inr, arith}
use Rattle.std.proofs.lemmas.Bool.{cases_eq, cases_lt, both_ways, or_cases, or_parts, or_left}
use Rattle.rows.specs.Members.{related, row_of}
use Rattle.rows.proofs.Sizes.{size_mono, size_full}
use Rattle.rows.proofs.Rows.{has_past}
use Rattle.visibility.specs.Growth.{Rel, Inside, Closed, Least, Grown, filled}

-- ---- rows of a table that grow

pub filled_mono : (t u : List ℕ) → Inside (related t) (related u) → filled t ≤ filled u
filled_mono t u i = size_mono (λ k. related t (k / 256) (k % 256)) (λ k. related u (k / 256) (k % 256)) 65536 (λ k h. i (k / 256) (k % 256) h)

module _ (D : Rel → ℕ → ℕ → Type 0) where
  -- the rows from mid on, and then those below
  pub grown_then : (low mid high : ℕ) (t u v : List ℕ) (x y : Bool) → Grown D mid high t u x → Grown D low mid u v y → Grown D low high t v (x || y)
  grown_then low mid high t u v x y p q = record {
    long = q.long;
    holds = λ a b h. q.holds a b (p.holds a b h);
    within = λ S i c. q.within S (p.within S i c) c;
    same = λ h. let e = or_parts x y h in q.same e.1 ∙ p.same e.0;
    closed = λ h a b l m d.
        let e = or_parts x y h in
        elim (cases_lt a mid) [
          | inr s ↦ p.closed e.0 a b s m d
          | inl s ↦
              let z = p.same e.0 in
              subst (λ (w : List ℕ). related w a b ≡ true) z (q.closed e.1 a b l s (subst (λ (w : List ℕ). D (related w) a b) (sym z) d))
        ];
    more = λ h.
        let i = filled_mono t u p.holds in
        let j = filled_mono u v q.holds in
        elim (or_cases x y h) [ inl r ↦ omega (arith, p.more r) | inr r ↦ omega (arith, q.more r) ];
  }

  -- the rows from mid on, and then the one below
  pub grown_next : (low mid high : ℕ) (t u v : List ℕ) (x y : Bool) → mid ≡ low + 1 → Grown D mid high t u x → Grown D low (low + 1) u v y → Grown D low high t v (x || y)
  grown_next low mid high t u v x y next p q = grown_then low mid high t u v x y p (subst (λ k. Grown D low k u v y) (sym next) q)

  -- a round that changed nothing ends in the least closed relation
  pub grown_least : (n : ℕ) → ((Q : Rel) (a b : ℕ) → D Q a b → a < n) → (t u v : List ℕ) (x : Bool) → Inside (related t) (related u)
      → ((S : Rel) → Inside (related t) S → Closed D S → Inside (related u) S)
      → Grown D 0 n u v x → x ≡ false → Least D (related t) (related v)
  grown_least n low t u v x i w r h =
      let z = r.same h in
      record {
        holds = λ a b e. r.holds a b (i a b e);
        closed = λ a b d.
            let d' = subst (λ (s : List ℕ). D (related s) a b) z d in
            subst (λ (s : List ℕ). related s a b ≡ true) (sym z) (r.closed h a b (omega arith) (low (related u) a b d') d');
        least = λ S e c. r.within S (w S e c) c;
      }

  module _ (a : ℕ) (t : List ℕ) (old asked new : ℕ → Bool) (small : a < 256) (l : length t ≡ 1024) (was : (b : ℕ) → old b ≡ related t a b)
      (er : (b : ℕ) → Decides (asked b) (D (related t) a b)) (en : (b : ℕ) → new b ≡ (old b || asked b)) where
    module _ (mono : (P Q : Rel) → Inside P Q → (a b : ℕ) → D P a b → D Q a b) (u : List ℕ) (here : (b : ℕ) → related u a b ≡ new b)
        (others : (c b : ℕ) → (c ≡ a → ⊥) → related u c b ≡ related t c b) (long : length u ≡ 1024) (differ : ((k : ℕ) → new k ≡ old k) → ⊥) where
      held : Inside (related t) (related u)
      held c b h =
          elim (cases_eq c a) [
            | inl z ↦ ap (λ (x : ℕ). related u x b) z ∙ here b ∙ en b ∙ or_left (old b) (asked b) (was b ∙ ap (λ (x : ℕ). related t x b) (sym z) ∙ h)
            | inr z ↦ others c b z ∙ h
          ]

      past : (v : List ℕ) (k : ℕ) → 256 ≤ k → related v a k ≡ false
      past v k h = has_past (row_of v a) 4 k refl (omega arith)

      all_same : filled t ≡ filled u → (k : ℕ) → new k ≡ old k
      all_same e k =
          elim (cases_lt k 256) [
            | inl h ↦
                let x : (256 * a + k) / 256 ≡ a = omega arith in
                let y : (256 * a + k) % 256 ≡ k = omega arith in
                let f = size_full (λ k. related t (k / 256) (k % 256)) (λ k. related u (k / 256) (k % 256)) 65536 (λ k h. held (k / 256) (k % 256) h) e (256 * a + k) (omega arith) in
                sym (here k) ∙ sym (ap₂ (λ (p q : ℕ). related u p q) x y) ∙ sym f ∙ ap₂ (λ (p q : ℕ). related t p q) x y ∙ sym (was k)
            | inr h ↦ sym (here k) ∙ past u k h ∙ sym (was k ∙ past t k h)
          ]

      pub row_grown : Grown D a (a + 1) t u true
      row_grown = record {
        long = long;
        holds = held;
        within = λ S i c x b h. elim (cases_eq x a) [
          | inl z ↦
              ap (λ (y : ℕ). S y b) z ∙ elim (or_cases (old b) (asked b) (sym (en b) ∙ sym (here b) ∙ ap (λ (y : ℕ). related u y b) (sym z) ∙ h)) [
                | inl p ↦ i a b (sym (was b) ∙ p)
                | inr p ↦ c a b (mono (related t) S i a b ((er b).0 p))
              ]
          | inr z ↦ i x b (sym (others x b z) ∙ h)
        ];
        same = λ h. absurd (both_ways true h refl);
        closed = λ h. absurd (both_ways true h refl);
        more = λ _.
            let m = filled_mono t u held in
            elim (cases_eq (filled t) (filled u)) [ inl e ↦ absurd (differ (all_same e)) | inr e ↦ omega arith ];
      }
