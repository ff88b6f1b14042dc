-- An answer of the lookup as the code makes it, from the picks from both bundles in turn. No public promise rests on this file.
use Rattle.std.specs.Prelude.{ℕ, Bool, not, ◌&&◌, ◌||◌, cond, eqb}
use Rattle.bundle.specs.declared.Found.{Found}
use Rattle.bundle.specs.declared.Picked.{Picked}

-- the number of a pick: NONE; one by which the check refuses a bundle
abbrev pub says_none : ℕ → Bool
says_none number = eqb number 10

abbrev pub is_refused : ℕ → Bool
is_refused number = not (eqb number 0) && not (eqb number 9) && not (eqb number 10)

-- the bundle that an answer with this number names, of a pick from bundle k: QUERY and NONE name none
unfoldable pub named_by : ℕ → ℕ → ℕ
named_by number k = cond (eqb number 9) 0 (cond (eqb number 10) 0 k)

-- what a pick from bundle k gives
unfoldable pub answer_of : ℕ → Picked → Found
answer_of k p = record { number = p.number; place = p.place; bundle = named_by p.number k; position = p.position; size = p.size }

-- what the pick p from the patch gives, and q, what comes of the main bundle
unfoldable pub decided : Picked → Picked → Found
decided p q =
    cond (is_refused p.number) (answer_of 1 p)
    (cond (is_refused q.number || says_none p.number) (answer_of 2 q)
    (answer_of 1 p))
