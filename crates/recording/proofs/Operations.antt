-- A list of operations, by its places and by its tests.
use Rattle.std.proofs.Common.{◌≡◌, ℕ, true, false, ◌&&◌, eqb, List, sym, refl, ap, ◌∙◌, subst, ⊎_elim}
use Rattle.std.proofs.lemmas.Bool.{true≢false, eqb-true, eq-eqb, and_parts, and_from, cases_Bool}
use Rattle.std.proofs.lemmas.List.{get_or_default}
use Rattle.std.proofs.lemmas.List.Folds.{list_any_at, Any-from_list_any}
use Rattle.std.specs.List.{Any}
use Rattle.recording.specs.declared.operation.Kind.{Kind}
use Rattle.recording.specs.declared.operation.Kind.TheVariants.{Write, Read}
use Rattle.recording.specs.declared.operation.Operation.{Operation}
use Rattle.recording.specs.Operations.{write_of, at, is_write, Gives, gives, written}

pub write_is : (k : Kind) → is_write k ≡ true → k ≡ Write
write_is Write e = refl
write_is Read e = absurd (true≢false (sym e))

pub gives_parts : (x : Operation) (reg v : ℕ) → gives x reg v ≡ true → (x.kind ≡ Write) × (x.register ≡ reg) × (x.value ≡ v)
gives_parts x reg v e =
    let p = and_parts (is_write x.kind) (eqb x.register reg && eqb x.value v) e in
    let q = and_parts (eqb x.register reg) (eqb x.value v) p.1 in
    (write_is x.kind p.0, eqb-true x.register reg q.0, eqb-true x.value v q.1)

pub written_false : (ops : List Operation) (reg v : ℕ) → ((w : ℕ) → ¬ Gives ops w reg v) → written ops reg v ≡ false
written_false ops reg v none = ⊎_elim (λ e. absurd (some (Any-from_list_any (λ x. gives x reg v) ops e))) (λ e. e) (cases_Bool (written ops reg v))
  where
    some : ¬ Any (λ x. gives x reg v ≡ true) ops
    some (w, x, inside, here, e) =
        let p = gives_parts (at ops w) reg v (subst (λ y. gives y reg v ≡ true) (sym (get_or_default ops w (write_of 0 0 0) x inside ∙ here)) e) in
        none w (record { is_write = record { inside = inside; kind = p.0 }; register = p.1; value = p.2 })

pub not_written : (ops : List Operation) (reg v : ℕ) → written ops reg v ≡ false → (w : ℕ) → ¬ Gives ops w reg v
not_written ops reg v e w g = true≢false (sym here ∙ e)
  where
    here : written ops reg v ≡ true
    here =
        list_any_at (λ x. gives x reg v) ops w (write_of 0 0 0) g.is_write.inside
        (and_from _ _ (ap is_write g.is_write.kind) (and_from _ _ (eq-eqb _ _ g.register) (eq-eqb _ _ g.value)))
