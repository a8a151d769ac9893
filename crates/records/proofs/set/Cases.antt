-- The set of document 01's listing: the check takes it, with four modules of these names.
use Prim.Native.Nat.{ℕ}
use mathlib.Core.Path.{◌≡◌, refl}
use mathlib.Core.List.{List, [], ◌∷◌, map}
use Rattle.records.specs.Bytes.{same_bytes, u16_at}
use Rattle.records.specs.Name.{printable, name_of, after_name, is_field, is_name, is_empty, is_names, is_list, is_version, is_name_version, is_name_list, mem_name, java_base}
use Rattle.records.specs.Record.{mark_of, size_of, body_of, record_more, whole, records_from, records, mark_for, set_kind, is_module, is_requires, is_body, is_of, bodies_in, bodies}
use Rattle.records.specs.Descriptor.{Descriptor, module_name, header_of, descriptor_of}
use Rattle.records.specs.Set.{body_at, name_at, is_placed, admit_at, pass_at, judge_at, table_of, accepted, go_on, check_from, check_set, up_to_next, blocks_of, blocks, modules}

-- java.base (PK java/lang); page.core (RQ transitive page.frames, US page/Reader); page.foot (RQ page.frames, PV page/Reader,
-- PK page/foot); page.frames (PK page/frame)
unfoldable pub listing : List ℕ
listing = 77 ∷ 79 ∷ 0 ∷ 14 ∷ 0 ∷ 0 ∷ 0 ∷ 9 ∷ 106 ∷ 97 ∷ 118 ∷ 97 ∷ 46 ∷ 98 ∷ 97 ∷ 115 ∷ 101 ∷ 0 ∷ 80 ∷ 75 ∷ 0 ∷ 10 ∷ 9 ∷ 106 ∷ 97 ∷ 118 ∷ 97 ∷ 47 ∷ 108 ∷ 97 ∷ 110 ∷ 103 ∷ 77 ∷ 79 ∷ 0 ∷ 14 ∷ 0 ∷ 0 ∷ 0 ∷ 9 ∷ 112 ∷ 97 ∷ 103 ∷ 101 ∷ 46 ∷ 99 ∷ 111 ∷ 114 ∷ 101 ∷ 0 ∷ 82 ∷ 81 ∷ 0 ∷ 15 ∷ 0 ∷ 32 ∷ 11 ∷ 112 ∷ 97 ∷ 103 ∷ 101 ∷ 46 ∷ 102 ∷ 114 ∷ 97 ∷ 109 ∷ 101 ∷ 115 ∷ 0 ∷ 85 ∷ 83 ∷ 0 ∷ 12 ∷ 11 ∷ 112 ∷ 97 ∷ 103 ∷ 101 ∷ 47 ∷ 82 ∷ 101 ∷ 97 ∷ 100 ∷ 101 ∷ 114 ∷ 77 ∷ 79 ∷ 0 ∷ 14 ∷ 0 ∷ 0 ∷ 0 ∷ 9 ∷ 112 ∷ 97 ∷ 103 ∷ 101 ∷ 46 ∷ 102 ∷ 111 ∷ 111 ∷ 116 ∷ 0 ∷ 82 ∷ 81 ∷ 0 ∷ 15 ∷ 0 ∷ 0 ∷ 11 ∷ 112 ∷ 97 ∷ 103 ∷ 101 ∷ 46 ∷ 102 ∷ 114 ∷ 97 ∷ 109 ∷ 101 ∷ 115 ∷ 0 ∷ 80 ∷ 86 ∷ 0 ∷ 29 ∷ 11 ∷ 112 ∷ 97 ∷ 103 ∷ 101 ∷ 47 ∷ 82 ∷ 101 ∷ 97 ∷ 100 ∷ 101 ∷ 114 ∷ 0 ∷ 1 ∷ 14 ∷ 112 ∷ 97 ∷ 103 ∷ 101 ∷ 47 ∷ 102 ∷ 111 ∷ 111 ∷ 116 ∷ 47 ∷ 73 ∷ 109 ∷ 112 ∷ 108 ∷ 80 ∷ 75 ∷ 0 ∷ 10 ∷ 9 ∷ 112 ∷ 97 ∷ 103 ∷ 101 ∷ 47 ∷ 102 ∷ 111 ∷ 111 ∷ 116 ∷ 77 ∷ 79 ∷ 0 ∷ 16 ∷ 0 ∷ 0 ∷ 0 ∷ 11 ∷ 112 ∷ 97 ∷ 103 ∷ 101 ∷ 46 ∷ 102 ∷ 114 ∷ 97 ∷ 109 ∷ 101 ∷ 115 ∷ 0 ∷ 80 ∷ 75 ∷ 0 ∷ 11 ∷ 10 ∷ 112 ∷ 97 ∷ 103 ∷ 101 ∷ 47 ∷ 102 ∷ 114 ∷ 97 ∷ 109 ∷ 101 ∷ []

-- the modules start at 0, 32, 85 and 169
pub listing-taken : check_set listing ≡ accepted (0 ∷ 32 ∷ 85 ∷ 169 ∷ []) 204
unfolding listing check_set check_from go_on judge_at pass_at admit_at is_placed accepted table_of name_at body_at module_name mem_name is_body is_module is_requires is_name_list is_name_version is_version is_list is_names is_name is_field is_empty after_name name_of printable set_kind records records_from whole record_more body_of size_of mark_of u16_at same_bytes
listing-taken = refl

pub listing-names : map (λ (m : Descriptor). m.name) (modules listing) ≡ java_base ∷ (112 ∷ 97 ∷ 103 ∷ 101 ∷ 46 ∷ 99 ∷ 111 ∷ 114 ∷ 101 ∷ []) ∷ (112 ∷ 97 ∷ 103 ∷ 101 ∷ 46 ∷ 102 ∷ 111 ∷ 111 ∷ 116 ∷ []) ∷ (112 ∷ 97 ∷ 103 ∷ 101 ∷ 46 ∷ 102 ∷ 114 ∷ 97 ∷ 109 ∷ 101 ∷ 115 ∷ []) ∷ []
unfolding listing modules blocks blocks_of up_to_next is_of mark_for descriptor_of header_of bodies bodies_in module_name after_name name_of records records_from whole record_more body_of size_of mark_of u16_at
listing-names = refl
