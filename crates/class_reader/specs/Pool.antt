-- The constant pool (JVM Specification 4.4): where its constants stand, and the texts and names that they give.
use Rattle.std.specs.Prelude.{ℕ, zero, suc, ◌+◌, ◌-◌, List, [], ◌∷◌, Bool, true, false, cond, ◌&&◌, ◌||◌, not, length, get_or, take, drop, ltb, leb, eqb, Result, Ok, Err}
use Rattle.records.specs.Bytes.{u16_at}
use Rattle.records.specs.Name.{printable}
use Rattle.class_reader.specs.declared.pool.Fault.{Fault}

-- ---- one constant

-- the bytes of a constant by its tag, of a Utf8 those before its text; 0 where there is no such tag (table 4.4-A)
abbrev pub widths : List ℕ
widths =
    0 ∷ 3 ∷ 0  -- 1 Utf8
    ∷ 5 ∷ 5 ∷ 9 ∷ 9  -- 3 Integer, 4 Float, 5 Long, 6 Double
    ∷ 3 ∷ 3  -- 7 Class, 8 String
    ∷ 5 ∷ 5 ∷ 5 ∷ 5  -- 9 Fieldref, 10 Methodref, 11 InterfaceMethodref, 12 NameAndType
    ∷ 0 ∷ 0 ∷ 4 ∷ 3  -- 15 MethodHandle, 16 MethodType
    ∷ 5 ∷ 5  -- 17 Dynamic, 18 InvokeDynamic
    ∷ 3 ∷ 3  -- 19 Module, 20 Package
    ∷ []

-- the tag of the constant at `at`
unfoldable pub tag_at : List ℕ → ℕ → ℕ
tag_at f at = get_or f at 0

-- the bytes that it takes
unfoldable pub width_at : List ℕ → ℕ → ℕ
width_at f at = get_or widths (tag_at f at) 0 + cond (eqb (tag_at f at) 1) (u16_at f (at + 1)) 0

-- Long and Double take two indices
unfoldable pub takes_two : List ℕ → ℕ → Bool
takes_two f at = eqb (tag_at f at) 5 || eqb (tag_at f at) 6

-- the tag is one of the file's version: Dynamic since major version 55, the others since 53 or before (table 4.4-B)
unfoldable pub is_defined : List ℕ → ℕ → Bool
is_defined f at = ltb 0 (get_or widths (tag_at f at) 0) && (not (eqb (tag_at f at) 17) || leb 55 (u16_at f 6))

-- a constant stands at `at`, whole, where `left` indices are left
unfoldable pub is_constant : List ℕ → ℕ → ℕ → Bool
is_constant f left at = is_defined f at && (leb (at + width_at f at) (length f) && (not (takes_two f at) || leb 2 left))

-- ---- all of them

-- the pool's end, or the constant at fault, where n indices are left and the next constant stands at `at`; `second` says that the
-- next index is the second one of the constant before
unfoldable pub pool_from : List ℕ → ℕ → Bool → ℕ → Result ℕ Fault
pool_from f zero second at = Ok at
pool_from f (suc n) true at = pool_from f n false at
pool_from f (suc n) false at = cond (is_constant f (suc n) at) (pool_from f n (takes_two f at) (at + width_at f at)) (Err (record { at = at }))

-- where the constants stand, one for each of these indices; 0 for an index that has none
unfoldable pub offsets_from : List ℕ → ℕ → Bool → ℕ → List ℕ
offsets_from f zero second at = []
offsets_from f (suc n) true at = 0 ∷ offsets_from f n false at
offsets_from f (suc n) false at = at ∷ offsets_from f n (takes_two f at) (at + width_at f at)

-- constant_pool_count: the indices are those below it, and index 0 has no constant
unfoldable pub pool_count : List ℕ → ℕ
pool_count f = u16_at f 8

-- the pool of the file: its end or its fault
unfoldable pub pool_end : List ℕ → Result ℕ Fault
pool_end f = pool_from f (pool_count f - 1) false 10

-- the pool of the file: where the constant of each index stands
unfoldable pub pool_of : List ℕ → List ℕ
pool_of f = 0 ∷ offsets_from f (pool_count f - 1) false 10

-- ---- what an index gives, in a file with this pool

-- constant i is there and has this tag
unfoldable pub is_tag : ℕ → List ℕ → List ℕ → ℕ → Bool
is_tag k f t i = ltb 0 (get_or t i 0) && eqb (tag_at f (get_or t i 0)) k

-- the text of the Utf8 i
unfoldable pub text_at : List ℕ → List ℕ → ℕ → List ℕ
text_at f t i = take (u16_at f (get_or t i 0 + 1)) (drop (get_or t i 0 + 3) f)

-- the text obeys the name rule of the set
unfoldable pub is_name_text : List ℕ → Bool
is_name_text s = ltb 0 (length s) && (leb (length s) 255 && printable s)

-- i is a Utf8 whose text obeys the name rule
unfoldable pub has_text : List ℕ → List ℕ → ℕ → Bool
has_text f t i = is_tag 1 f t i && is_name_text (text_at f t i)

-- the index of the name of constant i, a Class, a Module or a Package
unfoldable pub name_index : List ℕ → List ℕ → ℕ → ℕ
name_index f t i = u16_at f (get_or t i 0 + 1)

-- i is a constant with this tag, and its name obeys the name rule
unfoldable pub has_name : ℕ → List ℕ → List ℕ → ℕ → Bool
has_name k f t i = is_tag k f t i && has_text f t (name_index f t i)

-- its name
unfoldable pub name_at : List ℕ → List ℕ → ℕ → List ℕ
name_at f t i = text_at f t (name_index f t i)

-- a version: none where the index is 0
unfoldable pub has_version : List ℕ → List ℕ → ℕ → Bool
has_version f t i = eqb i 0 || has_text f t i

unfoldable pub version_at : List ℕ → List ℕ → ℕ → List ℕ
version_at f t i = cond (eqb i 0) [] (text_at f t i)
