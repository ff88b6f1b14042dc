-- The normal form of an accepted bundle: its length, that it reads back sorted, and what normalising gives back. Assumes nothing.
use Prim.Native.Nat.{ℕ, ◌+◌, ◌^◌, ◌<◌, ◌≤◌}
use native.Mathlib.Omega.{arith}
use mathlib.Core.Path.{◌≡◌, sym, ap, ◌∙◌}
use mathlib.Core.List.{List}
use lib.ListN.{length, get_or}
use borrow.Author.Tests.{le-ltb}
use Rattle.wire.specs.Limit.{limit}
use Rattle.wire.specs.Order.{sort_by}
use Rattle.wire.proofs.ListLaws.{total_most}
use Rattle.wire.specs.Stop.{go, unrefused, output}
use Rattle.wire.proofs.StopLaws.{⨾-both, stop_if-go}
use Rattle.wire.proofs.SortLaws.{sort_in, sort_out, sort_length, sort_total, sort_distinct, sort_again, sort_same, same_sort}
use Rattle.entry_id.specs.IdRules.{IdRules, Lawful}
use Rattle.bundle.specs.Table.{count, row}
use Rattle.bundle.specs.Check.{check}
use Rattle.bundle.specs.Entry.{Entry, no_entry, entry_of, entries}
use Rattle.bundle.specs.Pick.{pick}
use Rattle.bundle.specs.Accepted.{Accepted}
use Rattle.bundle.specs.Layout.{entry_size, packed_length, encode, Writable, ReadsBack}
use Rattle.bundle.specs.Normal.{by_id, room_stop, answer, normal, normal_length, normalise_stop, normalise, normalised, RefusalWritesNothing}
use Rattle.bundle.specs.Demand.{SamePick, Writes, Kept}
use Rattle.bundle.proofs.AcceptLaws.{accepted-go}
use Rattle.bundle.proofs.EntryLaws.{length_image_of, entries-length, entries_at, entries_writable}
use Rattle.bundle.proofs.PackLaws.{length-encode, encode-reads_back, encode-entries}
use Rattle.bundle.proofs.SameLaws.{Holds, pick_stop-entries, picked_image-entries}
use Rattle.bundle.proofs.Theorems.{check_exact}

-- ---- a call that writes

pub room_stop-go : (len room : ℕ) → len ≤ limit → len ≤ room → room_stop len room ≡ go
unfolding room_stop
room_stop-go len room p q = ⨾-both _ _ (stop_if-go 11 _ (le-ltb _ _ p)) (stop_if-go 12 _ (le-ltb _ _ q))

-- ---- sorting

pub sort_packed_length : (es : List Entry) → packed_length (sort_by by_id es) ≡ packed_length es
unfolding packed_length
sort_packed_length es = ap (32 +◌) (sort_total by_id entry_size es)

pub sort_writable : (R : IdRules) (es : List Entry) → Writable R es → Writable R (sort_by by_id es)
sort_writable R es g = record {
  few = omega (arith, sort_length by_id es, g.few);
  canonical = λ e m. g.canonical e (sort_out by_id e es m);
  some = λ e m. g.some e (sort_out by_id e es m);
  distinct = sort_distinct by_id es g.distinct;
  once = λ e f m n. g.once e f (sort_out by_id e es m) (sort_out by_id f es n);
  unmixed = λ e f m n. g.unmixed e f (sort_out by_id e es m) (sort_out by_id f es n);
}

-- ---- the normal form

module _ (R : IdRules) where
  pub length-normal : (s : List ℕ) → length (normal R s) ≡ normal_length R s
  unfolding normal normal_length
  length-normal s = length-encode (sort_by by_id (entries R s)) ∙ sort_packed_length (entries R s)

  normalise_stop-go : (s : List ℕ) (room : ℕ) → Accepted R s → normal_length R s ≤ limit → normal_length R s ≤ room → normalise_stop R s room ≡ go
  unfolding normalise_stop
  normalise_stop-go s room a p q = ⨾-both _ _ (accepted-go R s a) (room_stop-go (normal_length R s) room p q)

  writes : (s out : List ℕ) → Accepted R s → length (normal R s) ≤ limit → length (normal R s) ≤ length out → Writes R s (normal R s) out
  unfolding normalise normalised answer unrefused output
  writes s out a within room =
      let n : length (normal R s) ≡ normal_length R s = length-normal s in
      let g : normalise_stop R s (length out) ≡ go = normalise_stop-go s (length out) a (omega arith) (omega arith) in
      record { returned = rw (g, n); bytes = rw g }

module _ (R : IdRules) (L : Lawful R) where
  pub accepted_writable : (s : List ℕ) → Accepted R s → Writable R (entries R s)
  accepted_writable s a = entries_writable R s (count s) (row s) L a.frame.few a.sense.meant

  module _ (s : List ℕ) (a : Accepted R s) (within : length (normal R s) ≤ limit) where
    pub normal-reads_back : ReadsBack R (sort_by by_id (entries R s)) (normal R s)
    unfolding normal
    normal-reads_back =
        encode-reads_back R L (sort_by by_id (entries R s)) (sort_writable R (entries R s) (accepted_writable s a))
        (omega (arith, within, length-encode (sort_by by_id (entries R s))))

    normal-again : normal R (normal R s) ≡ normal R s
    unfolding normal
    normal-again =
        ap (λ es. encode (sort_by by_id es)) normal-reads_back.entries_back
        ∙ ap encode (sort_again by_id (entries R s) (accepted_writable s a).distinct)

    into : Holds R s (normal R s)
    into e m = rw normal-reads_back.entries_back (sort_in by_id e (entries R s) m)

    from : Holds R (normal R s) s
    from e m = sort_out by_id e (entries R s) (rw normal-reads_back.entries_back at m)

    same-pick : (device : List ℕ) → SamePick R s (normal R s) device
    unfolding pick
    same-pick device =
        let b = normal-reads_back.accepted in
        let t = pick_stop-entries R L s (normal R s) device a b into from in
        record { number = ap (λ z. z.number) t; place = ap (λ z. z.place) t; image = picked_image-entries R L s (normal R s) device a b into from }

    check-normal : check R (normal R s) ≡ record { number = 0; place = 0; count = count s }
    check-normal =
        normal-reads_back.checked
        ∙ ap (λ n. record { number = 0; place = 0; count = n }) (sort_length by_id (entries R s) ∙ entries-length R s (count s) (row s))

    pub kept : (device : List ℕ) → Kept R s device
    kept device =
        let n : length (normal R (normal R s)) ≡ length (normal R s) = ap length normal-again in
        record {
          written = λ out room. writes R s out a within room;
          accepted = check-normal;
          checked = check-normal ∙ sym ((check_exact R s).counted a);
          again = λ out room. rw normal-again at (writes R (normal R s) out normal-reads_back.accepted (omega arith) (omega arith));
          picked = same-pick device;
        }

  -- the same members, the same bytes; and only they
  pub same-normal : (a b : List ℕ) → Accepted R a → Accepted R b → Holds R a b → Holds R b a → normal R a ≡ normal R b
  unfolding normal
  same-normal a b p q h g =
      ap encode (sort_same by_id (entries R a) (entries R b) (accepted_writable a p).distinct (accepted_writable b q).distinct h g)

  -- the normal form reads back above the limit too: 64 entries, each of at most 24, 256 and a container's bytes, are less than 8 bytes can say
  entry_size_lem : (s : List ℕ) → Accepted R s → (i : ℕ) → i < length (entries R s) → entry_size (get_or (entries R s) i no_entry) ≤ 280 + limit
  unfolding entry_of
  entry_size_lem s a i h =
      let l : i < count s = omega (arith, entries-length R s (count s) (row s)) in
      let g = a.sense.in_range i l in
      rw (entries_at R s (count s) (row s) i l)
      (omega (arith, L.canon_short (row s i).id, length_image_of s (row s i) g.within, g.within, a.frame.fits))

  normal-size : (s : List ℕ) → Accepted R s → packed_length (sort_by by_id (entries R s)) < 256 ^ 8
  unfolding packed_length
  normal-size s a =
      omega (arith, sort_packed_length (entries R s), total_most entry_size no_entry (280 + limit) (entries R s) (entry_size_lem s a), entries-length R s (count s) (row s), a.frame.few)

  normal-entries : (s : List ℕ) → Accepted R s → entries R (normal R s) ≡ sort_by by_id (entries R s)
  unfolding normal
  normal-entries s a = encode-entries R L (sort_by by_id (entries R s)) (sort_writable R (entries R s) (accepted_writable s a)) (normal-size s a)

  pub normal-holds : (a b : List ℕ) → Accepted R a → Accepted R b → normal R a ≡ normal R b → Holds R a b
  normal-holds a b p q e = same_sort by_id (entries R a) (entries R b) (sym (normal-entries a p) ∙ ap (entries R) e ∙ normal-entries b q)

pub refusal_writes_nothing : (R : IdRules) → RefusalWritesNothing R
unfolding normalise normalised answer output
refusal_writes_nothing R s out k e = rw e
