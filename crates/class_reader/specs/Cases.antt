-- Class files with what the class reader answers and leaves in the output, byte by byte. They are written by parts, as the JVM
-- Specification has them (4.1, 4.4, 4.7.25 to 4.7.27), without the definitions that the cases are of. Every number but the magic and
-- the flags is below 256.
use Rattle.std.specs.Prelude.{ℕ, List, [], ◌∷◌, ◌++◌, length, take, replicate}
use Rattle.records.specs.Name.{all_unnamed}
use Rattle.records.specs.declared.error.ModuleError.TheVariants.{OutputTooShort, DescriptorParseError}
use Rattle.class_reader.specs.ClassFile.{ClassRead}
use Rattle.std.specs.Prelude.{Ok, Err}

-- ---- the parts of a class file

-- a number of two bytes
abbrev pub two : ℕ → List ℕ
two n = 0 ∷ n ∷ []

-- constants: Utf8, Class, Module, Package
abbrev pub utf8 : List ℕ → List ℕ
utf8 text = 1 ∷ 0 ∷ length text ∷ text

abbrev pub class : ℕ → List ℕ
class i = 7 ∷ two i

abbrev pub module_constant : ℕ → List ℕ
module_constant i = 19 ∷ two i

abbrev pub package_constant : ℕ → List ℕ
package_constant i = 20 ∷ two i

-- magic, whose first byte is given; minor version, major version, constant_pool_count
abbrev pub head : ℕ → ℕ → ℕ → List ℕ
head first major count = first ∷ 0xFE ∷ 0xBA ∷ 0xBE ∷ (two 0 ++ two major ++ two count)

-- access flags, whose low byte is given; this_class, super_class, the counts of interfaces, fields, methods and attributes
abbrev pub fields_with : ℕ → ℕ → ℕ → ℕ → ℕ → ℕ → ℕ → List ℕ
fields_with flags this super interfaces fields methods count = 0x80 ∷ flags ∷ (two this ++ two super ++ two interfaces ++ two fields ++ two methods ++ two count)

-- access flags 0x8000, no super, interfaces, fields or methods
abbrev pub fields : ℕ → ℕ → List ℕ
fields this count = fields_with 0 this 0 0 0 0 count

-- an attribute: the index of its name, a length of four bytes, its contents
abbrev pub attribute : ℕ → List ℕ → List ℕ
attribute i contents = two i ++ two 0 ++ two (length contents) ++ contents

-- ---- the smallest file: a module a, which requires nothing. Its pool, with index and offset of each constant
unfoldable pub small_pool : List ℕ
small_pool =
    utf8 (109 ∷ 111 ∷ 100 ∷ 117 ∷ 108 ∷ 101 ∷ 45 ∷ 105 ∷ 110 ∷ 102 ∷ 111 ∷ [])  -- 1 at 10: "module-info"
    ++ class 1  -- 2 at 24
    ++ utf8 (77 ∷ 111 ∷ 100 ∷ 117 ∷ 108 ∷ 101 ∷ [])  -- 3 at 27: "Module"
    ++ utf8 (97 ∷ [])  -- 4 at 36: "a"
    ++ module_constant 4  -- 5 at 40

-- Module: name (of this index), flags 0, no version; no requires, exports, opens, uses, provides
unfoldable pub plain : ℕ → List ℕ
plain i = attribute 3 (two i ++ two 0 ++ two 0 ++ replicate 10 0)

-- the pool ends at 43, the attribute is at 57, the file's length is 79
unfoldable pub smallest : List ℕ
unfolding small_pool plain
smallest = head 0xCA 53 6 ++ small_pool ++ fields 2 1 ++ plain 5

-- its records: MO, flags 0, automatic 0, "a", no version
unfoldable pub smallest_records : List ℕ
smallest_records = 77 ∷ 79 ∷ 0 ∷ 6 ∷ 0 ∷ 0 ∷ 0 ∷ 1 ∷ 97 ∷ 0 ∷ []

-- ---- a file with an entry of every table
unfoldable pub full_pool : List ℕ
unfolding small_pool
full_pool =
    small_pool
    ++ (5 ∷ replicate 8 0xFF)  -- 6 and 7 at 43: a Long
    ++ utf8 (77 ∷ 111 ∷ 100 ∷ 117 ∷ 108 ∷ 101 ∷ 80 ∷ 97 ∷ 99 ∷ 107 ∷ 97 ∷ 103 ∷ 101 ∷ 115 ∷ [])  -- 8 at 52: "ModulePackages"
    ++ utf8 (77 ∷ 111 ∷ 100 ∷ 117 ∷ 108 ∷ 101 ∷ 77 ∷ 97 ∷ 105 ∷ 110 ∷ 67 ∷ 108 ∷ 97 ∷ 115 ∷ 115 ∷ [])  -- 9 at 69: "ModuleMainClass"
    ++ utf8 (98 ∷ [])  -- 10 at 87: "b"
    ++ module_constant 10  -- 11 at 91
    ++ utf8 (112 ∷ [])  -- 12 at 94: "p"
    ++ package_constant 12  -- 13 at 98
    ++ utf8 (113 ∷ [])  -- 14 at 101: "q"
    ++ package_constant 14  -- 15 at 105
    ++ class 12  -- 16 at 108
    ++ utf8 (49 ∷ [])  -- 17 at 111: "1"

-- Module: a, all flag bits, version 1; requires b, all flag bits, no version; exports p to b; opens q; uses p; provides p with p
unfoldable pub full_module : List ℕ
full_module =
    attribute 3 (two 5 ++ (0xFF ∷ 0xFF ∷ []) ++ two 17
    ++ two 1 ++ two 11 ++ (0xFF ∷ 0xFF ∷ []) ++ two 0
    ++ two 1 ++ two 13 ++ two 0 ++ two 1 ++ two 11
    ++ two 1 ++ two 15 ++ two 0 ++ two 0
    ++ two 1 ++ two 16
    ++ two 1 ++ two 16 ++ two 1 ++ two 16)

-- at 129 an attribute "a" with one byte, which is skipped; then the packages q, p and q; Module; the main class p
unfoldable pub full : List ℕ
unfolding full_pool full_module
full = head 0xCA 53 18 ++ full_pool ++ fields 2 4 ++ attribute 4 (0xFF ∷ []) ++ attribute 8 (two 3 ++ two 15 ++ two 13 ++ two 15) ++ full_module ++ attribute 9 (two 16)

-- its records: 72 bytes
unfoldable pub full_records : List ℕ
full_records =
    (77 ∷ 79 ∷ 0 ∷ 7 ∷ 0x90 ∷ 0x20 ∷ 0 ∷ 1 ∷ 97 ∷ 1 ∷ 49 ∷ [])  -- MO: flags 0x9020, automatic 0, "a", "1"
    ++ (82 ∷ 81 ∷ 0 ∷ 5 ∷ 0x90 ∷ 0x60 ∷ 1 ∷ 98 ∷ 0 ∷ [])  -- RQ: flags 0x9060, "b", no version
    ++ (69 ∷ 88 ∷ 0 ∷ 6 ∷ 1 ∷ 112 ∷ 0 ∷ 1 ∷ 1 ∷ 98 ∷ [])  -- EX: "p", to "b"
    ++ (79 ∷ 80 ∷ 0 ∷ 4 ∷ 1 ∷ 113 ∷ 0 ∷ 0 ∷ [])  -- OP: "q", unqualified
    ++ (85 ∷ 83 ∷ 0 ∷ 2 ∷ 1 ∷ 112 ∷ [])  -- US: "p"
    ++ (80 ∷ 86 ∷ 0 ∷ 6 ∷ 1 ∷ 112 ∷ 0 ∷ 1 ∷ 1 ∷ 112 ∷ [])  -- PV: "p", with "p"
    ++ (80 ∷ 75 ∷ 0 ∷ 2 ∷ 1 ∷ 112 ∷ [])  -- PK: "p"
    ++ (80 ∷ 75 ∷ 0 ∷ 2 ∷ 1 ∷ 113 ∷ [])  -- PK: "q"
    ++ (77 ∷ 67 ∷ 0 ∷ 2 ∷ 1 ∷ 112 ∷ [])  -- MC: "p"

-- the file is malformed at this offset, and the output stays as it was
abbrev pub MalformedAt : List ℕ → ℕ → Type 0
MalformedAt f at = ClassRead f (replicate 12 9) (replicate 12 9) (Err (DescriptorParseError at))

pub record ClassCases : Type 0 where
  -- the whole output: the records, and the bytes past them as they were
  pub small : ClassRead smallest (replicate 12 9) (smallest_records ++ (9 ∷ 9 ∷ [])) (Ok 10)
  -- "MO, RQ, EX, OP, US, PV in file order, PK in byte order without repeats, MC"; "Undefined flag bits become 0"; "Attributes other
  -- than the three named next are skipped"; "Long and double constants take two indices"
  pub whole : ClassRead full (replicate 73 9) (full_records ++ (9 ∷ [])) (Ok 72)
  -- 4: the bytes needed
  pub short : ClassRead smallest (replicate 9 9) (replicate 9 9) (Err (OutputTooShort 10))
  -- "Offset of 8": "0 before the constant pool": a wrong magic, a major version below 53
  pub magic : MalformedAt (head 0xCB 53 6 ++ small_pool ++ fields 2 1 ++ plain 5) 0
  pub version : MalformedAt (head 0xCA 52 6 ++ small_pool ++ fields 2 1 ++ plain 5) 0
  -- "Long and double constants take two indices"
  pub double : ClassRead (head 0xCA 53 8 ++ small_pool ++ (6 ∷ replicate 8 0xFF) ++ fields 2 1 ++ plain 5) (replicate 10 9) smallest_records (Ok 10)
  -- "the constant .. at fault": one that is cut off; one too many, where 0x80 of the flags is no tag
  pub constant : MalformedAt (take 42 smallest) 40
  pub tag : MalformedAt (head 0xCA 53 7 ++ small_pool ++ fields 2 1 ++ plain 5) 43
  -- Dynamic (17) is there since major version 55
  pub dynamic : MalformedAt (head 0xCA 54 7 ++ small_pool ++ (17 ∷ 0 ∷ 0 ∷ 0 ∷ 0 ∷ []) ++ fields 2 1 ++ plain 5) 43
  pub dynamic_defined : ClassRead (head 0xCA 55 7 ++ small_pool ++ (17 ∷ 0 ∷ 0 ∷ 0 ∷ 0 ∷ []) ++ fields 2 1 ++ plain 5) (replicate 10 9) smallest_records (Ok 10)
  -- "the pool's end for fields between pool and attributes": "access flags 0x8000, this_class module-info, no super, interfaces, fields
  -- or methods". this_class is no Class, or another
  pub flags : MalformedAt (head 0xCA 53 6 ++ small_pool ++ fields_with 1 2 0 0 0 0 1 ++ plain 5) 43
  pub this_class : MalformedAt (head 0xCA 53 6 ++ small_pool ++ fields 5 1 ++ plain 5) 43
  pub this_name : MalformedAt (head 0xCA 53 7 ++ small_pool ++ class 4 ++ fields 6 1 ++ plain 5) 46
  pub super_class : MalformedAt (head 0xCA 53 6 ++ small_pool ++ fields_with 0 2 2 0 0 0 1 ++ plain 5) 43
  pub interface_count : MalformedAt (head 0xCA 53 6 ++ small_pool ++ fields_with 0 2 0 1 0 0 1 ++ plain 5) 43
  pub field_count : MalformedAt (head 0xCA 53 6 ++ small_pool ++ fields_with 0 2 0 0 1 0 1 ++ plain 5) 43
  pub method_count : MalformedAt (head 0xCA 53 6 ++ small_pool ++ fields_with 0 2 0 0 0 1 1 ++ plain 5) 43
  -- "for a wrong index or name, the attribute using it"
  pub index : MalformedAt (head 0xCA 53 6 ++ small_pool ++ fields 2 1 ++ plain 4) 57
  -- "Used names and versions obey the set's name rule": a space; "an empty version text is malformed"; RQ ALL-UNNAMED
  pub name : MalformedAt (head 0xCA 53 8 ++ small_pool ++ utf8 (0x20 ∷ []) ++ module_constant 6 ++ fields 2 1 ++ plain 7) 64
  pub empty_version : MalformedAt (head 0xCA 53 7 ++ small_pool ++ utf8 [] ++ fields 2 1 ++ attribute 3 (two 5 ++ two 0 ++ two 6 ++ replicate 10 0)) 60
  pub requires_unnamed : MalformedAt (head 0xCA 53 8 ++ small_pool ++ utf8 all_unnamed ++ module_constant 6 ++ fields 2 1 ++ attribute 3 (two 5 ++ two 0 ++ two 0 ++ two 1 ++ two 7 ++ replicate 12 0)) 74
  -- "One Module attribute": a second is at fault, and "the file's length if Module is missing"
  pub second : MalformedAt (head 0xCA 53 6 ++ small_pool ++ fields 2 2 ++ plain 5 ++ plain 5) 79
  pub missing : MalformedAt (head 0xCA 53 6 ++ small_pool ++ fields 2 0) 57
  pub missing_skipped : MalformedAt (head 0xCA 53 6 ++ small_pool ++ fields 2 1 ++ attribute 4 (0 ∷ [])) 64
  -- "the first byte left over"
  pub left_over : MalformedAt (smallest ++ (0 ∷ 0 ∷ [])) 79
  -- "the lowest counts": the index before the byte left over
  pub lowest : MalformedAt (head 0xCA 53 6 ++ small_pool ++ fields 2 1 ++ plain 4 ++ (0 ∷ [])) 57
