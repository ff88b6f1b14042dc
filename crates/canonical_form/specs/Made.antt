-- What is told of a canonical form that was made. Definitions only.
use Rattle.std.specs.Prelude.{ℕ, cond, List, [], ◌∷◌, length, ◌==◌, Option, None, Some}
use Rattle.entry_id.specs.Canonical.{head_key}
use Rattle.canonical_form.specs.declared.Form.{Form}

-- the length of the kind that a kind of n bytes is compared as: hipv4 has five bytes and is compared as hip, which has three
unfoldable pub compared_length : ℕ → ℕ
compared_length n = cond (n == 5) 3 n

-- its length, and its head's number; no form has no byte
unfoldable pub form_of : List ℕ → Option Form
form_of [] = None
form_of (b ∷ x) = Some (record { length = length (b ∷ x); key = head_key (b ∷ x) })
