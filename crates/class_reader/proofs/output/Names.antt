-- Names with their length bytes, and lists of them: what each turn of the loop shows.
use Prim.Native.Nat.{ℕ, suc, ◌+◌, ◌-◌, ◌*◌, ◌/◌, ◌%◌, ◌≤◌, ◌<◌}
use mathlib.Core.Path.{◌≡◌, refl}
use mathlib.Core.List.{List, [], ◌∷◌, ◌++◌, append-nil}
use mathlib.Core.Bool.{true}
use native.Mathlib.Omega.{arith}
use lib.ListN.{length}
use Rattle.records.specs.Bytes.{u16_at}
use Rattle.records.specs.Order.{all_short}
use Rattle.records.specs.Output.{Put, name_bytes, two_bytes}
use Rattle.records.proofs.output.Written.{put_both, put-room}
use Rattle.records.proofs.output.Groups.{short-first, short-rest}
use Rattle.class_reader.specs.Pool.{name_at}
use Rattle.class_reader.specs.Entry.{names_at, names_bytes, list_bytes}
use Rattle.class_reader.specs.Output.{NamesRoom}
use Rattle.class_reader.proofs.output.Putting.{Putting, putting_start, putting_room, putting_more, putting_done}

-- ---- one name

pub name-put : (o n out : List ℕ) (at r : ℕ) → Put o at (length n ∷ (n ++ [])) out r → Put o at (name_bytes n) out r
unfolding name_bytes
name-put o n out at r p = rw (append-nil n) at p

-- the name of an index
module _ (o : List ℕ) (at : ℕ) (f t : List ℕ) (p k : ℕ) (n : List ℕ) (ek : k ≡ u16_at f p) (en : n ≡ name_at f t k) where
  pub index-room : at + length (name_bytes (name_at f t (u16_at f p))) ≤ length o → at + (1 + length n) ≤ length o
  unfolding name_bytes
  index-room h = rw (en, ek) (omega (arith, h))

  pub index_short : length (name_at f t (u16_at f p)) ≤ 255 → length n ≤ 255
  index_short h = rw (en, ek) h

  pub index-put : (out : List ℕ) (r : ℕ) → Put o at (name_bytes n) out r → Put o at (name_bytes (name_at f t (u16_at f p))) out r
  index-put out r q = rw (en, ek) at q

-- ---- n of them

-- the name at index i, and those behind it
pub names_more : (f t : List ℕ) (n p i : ℕ) → i < n
    → names_at f t (n - i) (p + 2 * i) ≡ name_at f t (u16_at f (p + 2 * i)) ∷ names_at f t (n - (i + 1)) (p + 2 * (i + 1))
unfolding names_at
names_more f t n p i l =
    let e : n - i ≡ suc (n - (i + 1)) = omega arith in
    let q : p + 2 * (i + 1) ≡ p + 2 * i + 2 = omega arith in
    rw (e, q)

pub names-none : (f t : List ℕ) (n p i : ℕ) → n ≤ i → names_at f t (n - i) (p + 2 * i) ≡ []
unfolding names_at
names-none f t n p i l = let e : n - i ≡ 0 = omega arith in rw e

-- out holds the first i names, up to b
pub record NamesPut (o : List ℕ) (at : ℕ) (f t : List ℕ) (n p : ℕ) (out : List ℕ) (b i : ℕ) : Type 0 where
  pub few : n ≤ 65535
  pub low : p ≤ 65547
  pub within : i ≤ n
  pub long : length out ≡ length o
  pub short : all_short (names_at f t (n - i) (p + 2 * i)) ≡ true
  pub putting : Putting o at (names_bytes (names_at f t n p)) out b (names_bytes (names_at f t (n - i) (p + 2 * i)))

pub names-start : (o : List ℕ) (at : ℕ) (f t : List ℕ) (n p : ℕ) → NamesRoom o at f t n p → NamesPut o at f t n p o at 0
names-start o at f t n p h =
    let a : n - 0 ≡ n = omega arith in
    let q : p + 2 * 0 ≡ p = omega arith in
    record {
      few = h.few;
      low = h.low;
      within = omega arith;
      long = refl;
      short = rw (a, q) h.short;
      putting = rw (a, q) (putting_start o at (names_bytes (names_at f t n p)) h.room);
    }

module _ {o : List ℕ} {at : ℕ} {f t : List ℕ} {n p : ℕ} {out : List ℕ} {b i : ℕ} (h : NamesPut o at f t n p out b i) where
  abbrev rest : List (List ℕ)
  rest = names_at f t (n - (i + 1)) (p + 2 * (i + 1))

  module _ (l : i < n) where
    abbrev here : List ℕ
    here = name_at f t (u16_at f (p + 2 * i))

    pieces : names_bytes (names_at f t (n - i) (p + 2 * i)) ≡ name_bytes here ++ names_bytes rest
    unfolding names_bytes
    pieces = rw (names_more f t n p i l)

    pub names-short : length (name_at f t (u16_at f (p + 2 * i))) ≤ 255
    names-short = short-first here rest (rw (names_more f t n p i l) at h.short)

    pub names-room : b + length (name_bytes (name_at f t (u16_at f (p + 2 * i)))) ≤ length out
    names-room =
        putting_room o at (names_bytes (names_at f t n p)) out b (names_bytes (names_at f t (n - i) (p + 2 * i))) h.putting (name_bytes here) (names_bytes rest) pieces

    pub names-put : (out' : List ℕ) (b' : ℕ) → Put out b (name_bytes (name_at f t (u16_at f (p + 2 * i)))) out' b' → NamesPut o at f t n p out' b' (i + 1)
    names-put out' b' q =
        let z : Putting o at (names_bytes (names_at f t n p)) out' b' (names_bytes rest) =
        putting_more o at (names_bytes (names_at f t n p)) out b (names_bytes (names_at f t (n - i) (p + 2 * i))) h.putting (name_bytes here) (names_bytes rest) pieces out' b' q in
        record {
          few = h.few;
          low = h.low;
          within = omega arith;
          long = z.long;
          short = short-rest here rest (rw (names_more f t n p i l) at h.short);
          putting = z;
        }

  pub names-done : n ≤ i → Put o at (names_bytes (names_at f t n p)) out b
  unfolding names_bytes
  names-done l =
      putting_done o at (names_bytes (names_at f t n p)) out b (names_bytes (names_at f t (n - i) (p + 2 * i))) h.putting (rw (names-none f t n p i l))

  pub names-long : length out ≡ length o
  names-long = h.long

pub ruleset names-laws = (names-start, names-short, names-room, names-put, names-done, names-long)

-- ---- a list

module _ (o : List ℕ) (at : ℕ) (f t : List ℕ) (n p : ℕ) (h : NamesRoom o (at + 2) f t n p) where
  abbrev count : List ℕ
  count = (n / 256 % 256) ∷ (n % 256) ∷ []

  pub list-front : at + length count ≤ length o
  list-front = omega (arith, h.room)

  module _ (o₁ : List ℕ) (b : ℕ) (q : Put o at count o₁ b) where
    pub list-room : NamesRoom o₁ b f t n p
    list-room = record {
      few = h.few;
      low = h.low;
      room = put-room o at count o₁ b (length (names_bytes (names_at f t n p))) (omega (arith, h.room)) q;
      short = h.short;
    }

    pub list_put : (out : List ℕ) (r : ℕ) → Put o₁ b (names_bytes (names_at f t n p)) out r → Put o at (list_bytes f t n p) out r
    unfolding list_bytes two_bytes
    list_put out r s = put_both o at count o₁ b (names_bytes (names_at f t n p)) out r list-front q s

pub ruleset list-laws = (list-front, list-room, list_put)
