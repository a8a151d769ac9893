-- The cases 6, 7 and 8 of document 01, by computation.
use mathlib.Core.Path.{◌≡◌, refl}
use Rattle.records.specs.Bytes.{same_bytes}
use Rattle.records.specs.Name.{is_empty}
use Rattle.records.specs.Automatic.{is_digit, is_letter, is_alphanumeric, is_start, has_byte, after_last, file_name, without_jar, starts_version, has_version, without_version, dotted_from, dotted, trim_front, trim_end, trimmed, derived_name, is_rest, is_part, in_front, parts_of, all_parts, is_module_name, validated, derived}
use Rattle.records.specs.Cases.{foot_notes_jar, foot_notes, versions_jar, only_jar}
use Rattle.records.specs.declared.error.ModuleError.TheVariants.{InvalidAutomaticModuleName, InvalidModuleName}
use Rattle.std.specs.Prelude.{Ok, Err}

pub case_6_name : derived_name foot_notes_jar ≡ foot_notes
unfolding same_bytes is_empty is_digit is_letter is_alphanumeric has_byte after_last file_name without_jar starts_version has_version without_version dotted_from dotted trim_front trim_end trimmed derived_name
case_6_name = refl

pub case_6 : derived foot_notes_jar ≡ (Ok tt)
unfolding same_bytes is_empty is_digit is_letter is_alphanumeric is_start has_byte after_last file_name without_jar starts_version has_version without_version dotted_from dotted trim_front trim_end trimmed derived_name is_rest is_part in_front parts_of all_parts is_module_name validated derived
case_6 = refl

pub case_7 : derived versions_jar ≡ Err InvalidModuleName
unfolding same_bytes is_empty is_digit is_letter is_alphanumeric is_start has_byte after_last file_name without_jar starts_version has_version without_version dotted_from dotted trim_front trim_end trimmed derived_name is_rest is_part in_front parts_of all_parts is_module_name validated derived
case_7 = refl

pub case_8 : derived only_jar ≡ Err InvalidAutomaticModuleName
unfolding same_bytes is_empty has_byte after_last file_name without_jar derived
case_8 = refl
