-- Laws of what holds of every element of a list, and of every two. Assumes nothing.
use mathlib.Core.List.{List, [], ◌∷◌, ◌++◌}
use Rattle.offload_binary.specs.SequenceTheorems.{All}
use Rattle.offload_binary.specs.RecoveryTheorems.{Pairs}

pub All-map : {A : Type 0} {P Q : A → Type 0} → ((x : A) → P x → Q x) → (l : List A) → All P l → All Q l
All-map h [] p = tt
All-map h (x ∷ l) p = (h x p.0, All-map h l p.1)

pub All-append : {A : Type 0} (P : A → Type 0) (a b : List A) → All P a → All P b → All P (a ++ b)
All-append P [] b p q = q
All-append P (x ∷ a) b p q = (p.0, All-append P a b p.1 q)

pub Pairs-append : {A : Type 0} (R : A → A → Type 0) (a b : List A) → Pairs R a → Pairs R b → All (λ x. All (R x) b) a → Pairs R (a ++ b)
Pairs-append R [] b p q h = q
Pairs-append R (x ∷ a) b p q h = (All-append (R x) a b p.0 h.0, Pairs-append R a b p.1 q h.1)
