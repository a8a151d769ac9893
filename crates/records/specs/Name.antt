-- Names, versions and lists of names, as they stand at the front of a byte string (document 01, "The set and the request").
use Rattle.std.specs.Prelude.{ℕ, zero, suc, ◌+◌, List, [], ◌∷◌, Bool, true, false, ◌&&◌, ◌||◌, length, get_or, take, drop, ltb, leb, eqb}
use Rattle.records.specs.Bytes.{same_bytes, u16_at}

-- the name java.base
abbrev pub java_base : List ℕ
java_base = 106 ∷ 97 ∷ 118 ∷ 97 ∷ 46 ∷ 98 ∷ 97 ∷ 115 ∷ 101 ∷ []

-- the name ALL-UNNAMED
abbrev pub all_unnamed : List ℕ
all_unnamed = 65 ∷ 76 ∷ 76 ∷ 45 ∷ 85 ∷ 78 ∷ 78 ∷ 65 ∷ 77 ∷ 69 ∷ 68 ∷ []

-- every byte is from 0x21 to 0x7E
unfoldable pub printable : List ℕ → Bool
printable [] = true
printable (x ∷ xs) = (leb 0x21 x && leb x 0x7E) && printable xs

-- the bytes of the name at the front of s: the first byte is its length
unfoldable pub name_of : List ℕ → List ℕ
name_of s = take (get_or s 0 0) (drop 1 s)

-- what stands behind it
unfoldable pub after_name : List ℕ → List ℕ
after_name s = drop (1 + get_or s 0 0) s

-- a length byte and that many bytes, each printable: a name, or "none" where the length is 0
unfoldable pub is_field : List ℕ → Bool
is_field s = leb (1 + get_or s 0 0) (length s) && printable (name_of s)

-- a name stands at the front of s: one length byte, 1 to 255, then that many bytes
unfoldable pub is_name : List ℕ → Bool
is_name s = ltb 0 (get_or s 0 0) && is_field s

-- s is empty
unfoldable pub is_empty : List ℕ → Bool
is_empty s = eqb (length s) 0

-- s is k names and no more
unfoldable pub is_names : ℕ → List ℕ → Bool
is_names zero s = is_empty s
is_names (suc k) s = is_name s && is_names k (after_name s)

-- s is a list and no more: a two-byte count, and that many names
unfoldable pub is_list : List ℕ → Bool
is_list s = leb 2 (length s) && is_names (u16_at s 0) (drop 2 s)

-- s is a version and no more: as a name, and length 0 means none
unfoldable pub is_version : List ℕ → Bool
is_version s = is_field s && is_empty (after_name s)

-- a name and a version, and no more
unfoldable pub is_name_version : List ℕ → Bool
is_name_version s = is_name s && is_version (after_name s)

-- a name and a list, and no more
unfoldable pub is_name_list : List ℕ → Bool
is_name_list s = is_name s && is_list (after_name s)

-- the first k names of s
unfoldable pub names_of : ℕ → List ℕ → List (List ℕ)
names_of zero s = []
names_of (suc k) s = name_of s ∷ names_of k (after_name s)

-- the names of a list
unfoldable pub list_of : List ℕ → List (List ℕ)
list_of s = names_of (u16_at s 0) (drop 2 s)

-- the name is one of these
unfoldable pub mem_name : List ℕ → List (List ℕ) → Bool
mem_name n [] = false
mem_name n (m ∷ l) = same_bytes m n || mem_name n l
