-- What is told of a form. Assumes nothing.
use Rattle.std.proofs.Common.{◌≡◌, ℕ, ◌<◌, List, [], ◌∷◌, ◌++◌, length, drop, refl, ap, arith, Some, None}
use Rattle.entry_id.specs.Canonical.{head_key}
use Rattle.canonical_form.specs.declared.Form.{Form}
use Rattle.canonical_form.specs.Made.{form_of}

pub form_some : (x : List ℕ) (n k : ℕ) → 0 < length x → n ≡ length x → k ≡ head_key x → Some (record { length = n; key = k }) ≡ form_of x
unfolding form_of
form_some [] n k h e f = absurd (omega arith)
form_some (b ∷ x) n k h e f = λ i. Some (record { length = e i; key = f i })

pub form_parts : (x : List ℕ) (r : Form) → Some r ≡ form_of x → (0 < length x) × (r.length ≡ length x) × (r.key ≡ head_key x)
unfolding form_of
form_parts [] r e = cc
form_parts (b ∷ x) r e =
    let q : r ≡ record { length = length (b ∷ x); key = head_key (b ∷ x) } = cc in
    (omega arith, ap (λ (z : Form). z.length) q, ap (λ (z : Form). z.key) q)

pub form_none : (x : List ℕ) → None ≡ form_of x → x ≡ []
unfolding form_of
form_none [] e = refl
form_none (b ∷ x) e = cc

-- where there is no form, nothing is written
pub no_form : (f o : List ℕ) → f ≡ [] → (None ≡ form_of f) × (o ≡ f ++ drop (length f) o)
unfolding form_of
no_form f o e = rw e (refl, refl)
