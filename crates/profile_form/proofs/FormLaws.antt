-- The profile's form of a canonical form for one of our cards. Assumes nothing.
use Prim.Native.Nat.{ℕ, ◌-◌, ◌<◌}
use native.Mathlib.Omega.{arith}
use Rattle.std.proofs.Common.{Option, None}
use mathlib.Core.Path.{◌≡◌, refl, sym, ap, ap₂, ◌∙◌, subst}
use mathlib.Core.Bool.{Bool, true, false, not, ◌&&◌, cond}
use mathlib.Core.List.{List, [], ◌∷◌, map}
use lib.Dec.{T, leb, leb→le}
use lib.ListN.{length, take, drop}
use Rattle.wire.specs.Lists.{any, every}
use Rattle.wire.specs.Bytes.{bytes, empty, same}
use Rattle.wire.specs.First.{first}
use Rattle.wire.proofs.FirstLaws.{first_at}
use Rattle.wire.proofs.ByteLaws.{same_true}
use Rattle.wire.proofs.Bools.{and_l, and_r, and_t, is_true, not_t, of_true, bool_ext, and_false}
use Rattle.entry_id.specs.Meaning.{Feature, Meaning, feature, meaning, piece, canonical_of, shaped, proper, valid}
use Rattle.entry_id.specs.Canonical.{in_room}
use Rattle.entry_id.specs.Scan.{part, pieces_at}
use Rattle.entry_id.specs.Profile.{our_kinds, ours, primary_of, supported, supports, known, with_processor, with_primary, profile_meaning, profile_proper, profile_valid, profile_canon}
use Rattle.entry_id.proofs.ReadBack.{Proper, parts, shaped-bytes, proper-meaning, canon_is, feature-piece}
use Rattle.entry_id.proofs.ProfileLaws.{other_processor, profile_refused}
use Rattle.profile_form.specs.Table.{table, row_at, name_at, primary_at, marks_at}
use Rattle.profile_form.specs.declared.table.Row.{Row}
use Rattle.profile_form.specs.Parts.{renamed, OursAt, Renameable, Written}
use Rattle.canonical_form.specs.declared.Form.{Form}
use Rattle.profile_form.proofs.WriteLaws.{card, room_yes, room_nil, written_none}
use Rattle.profile_form.proofs.TableLaws.{primary_is, known_is, primary_some, primary_shaped, primary_short, primary_below, unknown_primary, unknown_is}

pieces_supported : (q : Feature → Bool) (fs : List Feature) → every (λ p. q (feature p)) (map piece fs) ≡ every q fs
unfolding every
pieces_supported q [] = refl
pieces_supported q (f ∷ fs) = ap₂ ◌&&◌ (ap q (feature-piece f)) (pieces_supported q fs)

some_long : (l : List ℕ) → T (not (empty l)) → 0 < length l
unfolding empty
some_long [] t = elim t [ ]
some_long (b ∷ l) t = omega arith

limited : (a k : Bool) (c : List ℕ) → cond (a && k) c [] ≡ cond k (cond a c []) []
limited true k c = refl
limited false true c = refl
limited false false c = refl

module _ (x : List ℕ) (kind at stop : ℕ) (o : OursAt x (card kind at stop)) where
  abbrev m : Meaning
  m = meaning x

  good : Proper m
  good = parts m (proper-meaning x o.right)

  primary_meaning : profile_meaning x ≡ with_processor m (primary_of m.processor)
  unfolding profile_meaning with_primary
  primary_meaning = ap (λ b. with_processor m (cond b (primary_of m.processor) m.processor)) o.is_ours

  is_shaped : shaped x ≡ true
  unfolding valid
  is_shaped = is_true (shaped x) (and_l (shaped x) (proper m) o.right)

  -- "An unknown processor .. gets ID"
  unknown_form : first 68 (λ k. same (name_at k) (part x at stop)) ≡ 68 → profile_canon x ≡ []
  unfolding profile_valid profile_proper known
  unknown_form e =
      let w : first 68 (λ k. same (name_at k) m.processor) ≡ 68 = ap (λ n. first 68 (λ k. same (name_at k) n)) (sym o.name) ∙ e in
      let k : profile_meaning x ≡ m = primary_meaning ∙ ap (with_processor m) (unknown_primary m.processor w) in
      profile_refused x (rw (is_shaped, k, o.is_ours, unknown_is m.processor w (λ r. every (supports r) m.features)) (and_false (proper m)))

  module _ (k : ℕ) (below : k < 68) (e : first 68 (λ k. same (name_at k) (part x at stop)) ≡ k) where
    p : List ℕ
    p = name_at (primary_at k)

    name_is : name_at k ≡ m.processor
    name_is = same_true (name_at k) (part x at stop) (subst (λ j. same (name_at j) (part x at stop) ≡ true) e (first_at 68 (λ j. same (name_at j) (part x at stop)) (omega (arith, e)))) ∙ o.name

    meaning_is : profile_meaning x ≡ with_processor m p
    unfolding p
    meaning_is = primary_meaning ∙ ap (λ n. with_processor m (primary_of n)) (sym name_is) ∙ ap (with_processor m) (primary_is k below)

    some : empty p ≡ false
    unfolding p
    some = not_t (empty p) (primary_some k below)

    ours_still : ours (with_processor m p) ≡ true
    unfolding ours p
    ours_still =
        let t : T (ours m) = of_true (ours m) o.is_ours in
        let a : T (any (same m.kind) our_kinds) = search (and_l, and_r) in
        let b : T (same m.arch (bytes "amdgcn")) = search (and_l, and_r) in
        let n : T (not (empty (name_at (primary_at k)))) = primary_some k below in
        let u : T (ours (with_processor m p)) = search and_t in
        is_true (ours (with_processor m p)) u

    -- only the length can refuse
    proper_is : proper (with_processor m p) ≡ leb (length (canonical_of (with_processor m p))) 256
    unfolding p
    proper_is =
        bool_ext (proper (with_processor m p)) (leb (length (canonical_of (with_processor m p))) 256)
        (λ t. (parts (with_processor m p) t).fits)
        (λ t. other_processor (with_processor m p) m.processor good some (primary_shaped k below) (leb→le _ _ t))

    marked_is : known (with_processor m p) ≡ every (λ q. supported (marks_at k).sramecc (marks_at k).xnack (feature q)) (pieces_at x stop)
    unfolding known p
    marked_is = known_is k below m.features ∙ sym (ap (every (λ q. supported (marks_at k).sramecc (marks_at k).xnack (feature q))) o.pieces ∙ pieces_supported (supported (marks_at k).sramecc (marks_at k).xnack) m.features)

    known-form : profile_canon x ≡ cond (every (λ q. supported (marks_at k).sramecc (marks_at k).xnack (feature q)) (pieces_at x stop)) (in_room 256 (renamed x at stop (name_at (primary_at k)))) []
    unfolding profile_canon profile_valid profile_proper in_room p
    known-form = rw (is_shaped, meaning_is, proper_is, ours_still, marked_is, o.form p) (limited (leb (length (renamed x at stop p)) 256) (every (λ q. supported (marks_at k).sramecc (marks_at k).xnack (feature q)) (pieces_at x stop)) (renamed x at stop p))

    -- a primary stays as it is
    own-form : primary_at k ≡ k → in_room 256 (renamed x at stop (name_at (primary_at k))) ≡ x
    unfolding valid shaped
    own-form e =
        let v = o.right in
        let l : T (leb (length x) 256) = search (and_l, and_r) depth 10 in
        ap (λ n. in_room 256 (renamed x at stop n)) (ap name_at e ∙ name_is) ∙ ap (in_room 256) (sym (o.form m.processor) ∙ sym (canon_is x v) ∙ o.again)
        ∙ room_yes 256 x (leb→le (length x) 256 l)

-- ---- what `ours` finds in the table t, row k

module _ (t : List Row) (x : List ℕ) (kind at stop k : ℕ) (same-table : t ≡ table) (o : OursAt x (card kind at stop)) (e : first 68 (λ j. same (name_at j) (take (stop - at) (drop at x))) ≡ k) where
  row-found : first 68 (λ j. same (name_at j) (part x at stop)) ≡ k
  unfolding part
  row-found = e

  none : (out : List ℕ) → profile_canon x ≡ [] → Written (profile_canon x) out out None
  none out z = written_none (profile_canon x) out (ap (in_room (length out)) z ∙ room_nil (length out))

  pub no_row : (out : List ℕ) → k ≡ 68 → Written (profile_canon x) out out None
  no_row out h = none out (unknown_form x kind at stop o (row-found ∙ h))

  module _ (below : k < 68) where
    primary_here : (row_at t k).primary ≡ primary_at k
    unfolding primary_at
    primary_here = ap (λ l. (row_at l k).primary) same-table

    pub primary_in_lem : (row_at t k).primary < 68
    primary_in_lem = omega (arith, primary_here, primary_below k below)

    marks_here : every (λ q. supported (row_at t k).marks.sramecc (row_at t k).marks.xnack (feature q)) (pieces_at x stop) ≡ every (λ q. supported (marks_at k).sramecc (marks_at k).xnack (feature q)) (pieces_at x stop)
    unfolding marks_at
    marks_here = ap (λ l. every (λ q. supported (row_at l k).marks.sramecc (row_at l k).marks.xnack (feature q)) (pieces_at x stop)) same-table

    module _ (v : Bool) (a : v ≡ every (λ q. supported (row_at t k).marks.sramecc (row_at t k).marks.xnack (feature q)) (pieces_at x stop)) where
      form_here : (b : Bool) → v ≡ b → profile_canon x ≡ cond b (in_room 256 (renamed x at stop (name_at (primary_at k)))) []
      form_here b f = known-form x kind at stop o k below row-found ∙ ap (λ c. cond c (in_room 256 (renamed x at stop (name_at (primary_at k)))) []) (sym marks_here ∙ sym a ∙ f)

      pub not-supported : (out : List ℕ) → v ≡ false → Written (profile_canon x) out out None
      not-supported out f = none out (form_here false f)

      pub with_primary_lem : (p out after : List ℕ) (r : Option Form) → v ≡ true → p ≡ name_at ((row_at t k).primary) → Written (in_room 256 (renamed x at stop p)) out after r → Written (profile_canon x) out after r
      with_primary_lem p out after r f n w = subst (λ c. Written c out after r) (ap (λ q. in_room 256 (renamed x at stop q)) (n ∙ ap name_at primary_here) ∙ sym (form_here true f)) w

    pub own_primary : (v : Bool) → v ≡ every (λ q. supported (row_at t k).marks.sramecc (row_at t k).marks.xnack (feature q)) (pieces_at x stop) → (out after : List ℕ) (r : Option Form) → v ≡ true → (row_at t k).primary ≡ k → Written x out after r → Written (profile_canon x) out after r
    own_primary v a out after r f e w = subst (λ c. Written c out after r) (sym (form_here v a true f ∙ own-form x kind at stop o k below row-found (sym primary_here ∙ e))) w

    pub rename_fits : (p : List ℕ) → p ≡ name_at ((row_at t k).primary) → Renameable x (card kind at stop) p
    unfolding valid shaped
    rename_fits p n =
        let q : p ≡ name_at (primary_at k) = n ∙ ap name_at primary_here in
        let v = o.right in
        let l : T (leb (length x) 256) = search (and_l, and_r) depth 10 in
        record {
          first = o.first;
          low = o.low;
          high = o.high;
          whole = leb→le (length x) 256 l;
          short = rw q (primary_short k below);
          some = rw q (some_long (name_at (primary_at k)) (primary_some k below));
          key = o.key p (rw q (shaped-bytes (name_at (primary_at k)) (primary_shaped k below)));
        }
