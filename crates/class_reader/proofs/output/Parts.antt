-- What stands before and behind the name of an entry, and the record of an entry.
use Prim.Native.Nat.{ℕ, ◌+◌, ◌-◌, ◌/◌, ◌%◌, ◌≤◌, ◌<◌}
use mathlib.Core.Path.{◌≡◌, refl, sym, ap, ◌∙◌}
use mathlib.Core.List.{List, [], ◌∷◌, ◌++◌}
use mathlib.Core.Bool.{true, ◌&&◌}
use mathlib.Core.Logic.{◌⊎◌, inl, inr}
use native.Mathlib.Omega.{arith}
use lib.ListN.{length, length-append}
use lib.Dec.{leb}
use borrow.Author.Tests.{leb-true}
use Rattle.records.specs.Bytes.{u16_at}
use Rattle.records.specs.Record.{mark_for}
use Rattle.records.specs.Output.{Put, two_bytes, name_bytes, record_bytes}
use Rattle.records.proofs.Logic.{and_left, and_right}
use Rattle.records.proofs.output.Written.{put-long, written_none, first-room, second-room, third-room, put_three}
use Rattle.class_reader.specs.Pool.{has_name, name_at}
use Rattle.class_reader.specs.Entry.{names_good, list_bytes, name_tag, entry_end, rest_good, is_entry, kind_of, prefix_of, suffix_of, entry_body, entry_item, bytes_of}
use Rattle.class_reader.specs.Output.{NamesRoom, Room, Marked}
use Rattle.records.specs.declared.record.Kind.{Kind}
use Rattle.class_reader.specs.declared.entry.Entry.{Entry}
use Rattle.class_reader.specs.declared.entry.Entry.TheVariants.{Exports, Opens, Provides}
use Rattle.class_reader.proofs.entry.Names.{name_short, version_short, all_short_lem}
use Rattle.class_reader.proofs.output.Putting.{put_front}

-- nothing is written
pub none_put : (o : List ℕ) (at : ℕ) → Put o at [] o at
none_put o at = record { place = omega arith; bytes = sym (written_none o at) }

pub name_long : (s : List ℕ) → length (name_bytes s) ≡ 1 + length s
unfolding name_bytes
name_long s = omega arith

-- ---- a list behind the name

module _ (o : List ℕ) (at : ℕ) (f t : List ℕ) (p n : ℕ) (l : p ≤ 65541) (ln : n < 65536) where
  list-room : (k q : ℕ) → at + length (list_bytes f t n q) ≤ length o → names_good k f t n q ≡ true → q ≤ 65547 → NamesRoom o (at + 2) f t n q
  unfolding list_bytes two_bytes
  list-room k q h gn lq = record { few = omega arith; low = lq; room = omega (arith, h); short = all_short_lem k f t n q gn }

  pub flagged-room : (e : Entry) → (e ≡ Exports) ⊎ (e ≡ Opens) → n ≡ u16_at f (p + 4) → rest_good e f t p ≡ true → at + length (suffix_of e f t p) ≤ length o
      → NamesRoom o (at + 2) f t n (p + 6)
  unfolding suffix_of rest_good
  flagged-room e (inl ee) en g h = list-room 19 (p + 6) (rw en (rw ee at h)) (rw en (rw ee at g)) (omega arith)
  flagged-room e (inr ee) en g h = list-room 19 (p + 6) (rw en (rw ee at h)) (rw en (rw ee at g)) (omega arith)

  pub provides-room : (e : Entry) → e ≡ Provides → n ≡ u16_at f (p + 2) → rest_good e f t p ≡ true → at + length (suffix_of e f t p) ≤ length o
      → NamesRoom o (at + 2) f t n (p + 4)
  unfolding suffix_of rest_good
  provides-room e ee en g h = list-room 7 (p + 4) (rw en (rw ee at h)) (rw en (rw ee at g)) (omega arith)

pub ruleset suffix_laws = (none_put, name_long, version_short)

-- ---- a mark and a length

pub mark-start : (at end : ℕ) → at + 4 ≤ end → at ≤ end
mark-start at end h = omega arith

pub mark-size : (at end : ℕ) → at + 4 ≤ end → 4 ≤ end - at
mark-size at end h = omega arith

pub mark-put : (o : List ℕ) (at mark end : ℕ) (out : List ℕ) (r : ℕ)
    → Put o at ((mark / 256 % 256) ∷ (mark % 256) ∷ ((end - at - 4) / 256 % 256) ∷ ((end - at - 4) % 256) ∷ []) out r → Marked o at mark end out end
unfolding two_bytes
mark-put o at mark end out r p =
    let e : end - (at + 4) ≡ end - at - 4 = omega arith in
    record { place = refl; bytes = rw e p.bytes }

pub ruleset mark-laws = (mark-start, mark-size, mark-put)

-- ---- the body

-- what a good entry gives
module _ (e : Entry) (f t : List ℕ) (p : ℕ) (g : is_entry e f t p ≡ true) where
  pub entry-within : entry_end e f p ≤ length f
  unfolding is_entry
  entry-within = leb-true (entry_end e f p) (length f) (and_left (leb (entry_end e f p) (length f)) (has_name (name_tag e) f t (u16_at f p) && rest_good e f t p) g)

  named : (has_name (name_tag e) f t (u16_at f p) && rest_good e f t p) ≡ true
  unfolding is_entry
  named = and_right (leb (entry_end e f p) (length f)) (has_name (name_tag e) f t (u16_at f p) && rest_good e f t p) g

  pub entry_named : has_name (name_tag e) f t (u16_at f p) ≡ true
  entry_named = and_left (has_name (name_tag e) f t (u16_at f p)) (rest_good e f t p) named

  pub entry-rest : rest_good e f t p ≡ true
  entry-rest = and_right (has_name (name_tag e) f t (u16_at f p)) (rest_good e f t p) named

module _ (o : List ℕ) (at : ℕ) (f t : List ℕ) (e : Entry) (p : ℕ) (g : is_entry e f t p ≡ true) (h : at + length (entry_body e f t p) ≤ length o) where
  abbrev front : List ℕ
  front = prefix_of e f p

  abbrev name : List ℕ
  name = name_bytes (name_at f t (u16_at f p))

  abbrev end : List ℕ
  end = suffix_of e f t p

  three : at + (length front + (length name + length end)) ≤ length o
  unfolding entry_body
  three = rw (length-append front (name ++ end), length-append name end) at h

  pub body-front : at + length (prefix_of e f p) ≤ length o
  body-front = first-room o at front name end three

  pub body_short : length (name_at f t (u16_at f p)) ≤ 255
  body_short = name_short (name_tag e) f t (u16_at f p) (entry_named e f t p g)

  module _ (o₁ : List ℕ) (b : ℕ) (q : Put o at (prefix_of e f p) o₁ b) where
    pub body-name : b + length (name_bytes (name_at f t (u16_at f p))) ≤ length o₁
    body-name = second-room o at front name end three o₁ b q

    module _ (o₂ : List ℕ) (c : ℕ) (s : Put o₁ b (name_bytes (name_at f t (u16_at f p))) o₂ c) where
      pub body_end : c + length (suffix_of e f t p) ≤ length o₂
      body_end = third-room o at front name end three o₁ b q o₂ c s

      pub body-put : (out : List ℕ) (r : ℕ) → Put o₂ c (suffix_of e f t p) out r → Put o at (entry_body e f t p) out r
      unfolding entry_body
      body-put out r u = put_three o at front name end three o₁ b q o₂ c s out r u

pub ruleset body-laws = (body-front, body_short, body-name, entry-rest, body_end, body-put)

-- ---- the record

module _ (o : List ℕ) (at : ℕ) (f t : List ℕ) (e : Entry) (p : ℕ) (h : Room o at (entry_item e f t p ∷ [])) where
  room : at + (4 + length (entry_body e f t p)) ≤ length o
  unfolding bytes_of entry_item record_bytes two_bytes
  room = omega (arith, h.room, length-append (record_bytes (kind_of e) (entry_body e f t p)) [])

  pub entry-start : at + 4 ≤ length o
  entry-start = omega (arith, room)

  pub entry-body : at + 4 + length (entry_body e f t p) ≤ length o
  entry-body = omega (arith, room)

  module _ (o₁ : List ℕ) (b : ℕ) (q : Put o (at + 4) (entry_body e f t p) o₁ b) where
    pub entry-front : at + 4 ≤ length o₁
    entry-front = omega (arith, room, put-long o (at + 4) (entry_body e f t p) o₁ b entry-body q)

    pub entry-behind : at + 4 ≤ b
    entry-behind = omega (arith, q.place)

    pub entry-put : (kind : Kind) (mark : ℕ) (out : List ℕ) (r : ℕ) → Marked o₁ at mark b out r → kind ≡ kind_of e → mark ≡ mark_for kind
        → Put o at (record_bytes (kind_of e) (entry_body e f t p)) out r
    unfolding record_bytes two_bytes
    entry-put kind mark out r m ek em' =
        let em : mark ≡ mark_for (kind_of e) = em' ∙ ap mark_for ek in
        let z : b - (at + 4) ≡ length (entry_body e f t p) = omega (arith, q.place) in
        let s : Put o₁ at (two_bytes mark ++ two_bytes (b - (at + 4))) out (at + 4) = record { place = refl; bytes = m.bytes } in
        let a : Put o at ((two_bytes mark ++ two_bytes (b - (at + 4))) ++ entry_body e f t p) out b =
        put_front o at 4 (two_bytes mark ++ two_bytes (b - (at + 4))) (entry_body e f t p) o₁ b out (at + 4) refl entry-start q s in
        rw m.place (rw (em, z) at a)

pub ruleset entry-laws = (entry-start, entry-body, entry-front, entry-behind, entry-put)
