-- Cases of static requirements (U6), of the definitions over bytes: without ST, and with it (names that end in `_with`). The sets are
-- those of `RuleCases`. Where a row tells positions, java.base has 0, and a, b, c and t have 1, 2, 3 and 4.
use Rattle.std.specs.Prelude.{◌≡◌, true, false, [], ◌∷◌, ◌++◌, replicate}
use Rattle.std.proofs.Math.Option.{none}
use Rattle.records.specs.Name.{java_base}
use Rattle.records.specs.Request.{request_of}
use Rattle.records.specs.Jar.{JarRead}
use Rattle.records.specs.Cases.{only_jar}
use Rattle.records.specs.declared.error.Input.TheVariants.{Set, Request, Packages}
use Rattle.records.specs.declared.error.ModuleError.TheVariants.{Malformed, ModuleNotFound, SplitPackage}
use Rattle.resolution.specs.Cases.{a, b, c}
use Rattle.access.specs.Access.{is_member}
use Rattle.access.specs.Cases.{p, resolved_to}
use Rattle.access.specs.Demand3.{Grows}
use Rattle.access.specs.Form.{marked, named, requires_with, MO, MO_automatic, RQ, RQ_transitive, RQ_static, US, PV, PK, PL, RT, LM, ST, AR, AE}
use Rattle.access.specs.PlaceCases.{q}
use Rattle.access.specs.RuleCases.{s, t, base, beside, requiring, outcome, members, reads, access, word}
use Rattle.access.specs.declared.access.AccessCheckResult.TheVariants.{Allowed}
use Rattle.std.specs.Prelude.{Ok, Err}

pub record StaticCases : Type 0 where
  -- "By default such a requirement now brings nothing in": not its module, nor what that requires; with ST it does
  pub static_default : members (beside (RQ_static b ++ MO b ++ RQ c ++ MO c)) (RT a) ≡ word 0b0011
  pub static_with : members (beside (RQ_static b ++ MO b ++ RQ c ++ MO c)) (RT a ++ ST) ≡ word 0b1111
  pub static_in_front : members (beside (RQ_static b ++ MO b ++ RQ c ++ MO c)) (ST ++ RT a) ≡ word 0b1111
  -- .. a static transitive one neither, with an LM or without, also of a second root, of what a root requires, behind another requirement,
  -- of java.base and of an automatic module, whatever the other flags are, and with an AR
  pub static_transitive : members (beside (requires_with 0 0x60 b ++ MO b)) (RT a) ≡ word 0b011
  pub static_transitive_with : members (beside (requires_with 0 0x60 b ++ MO b)) (RT a ++ ST) ≡ word 0b111
  pub static_permitted : members (beside (RQ_static b ++ MO b)) (RT a ++ LM (a ∷ b ∷ [])) ≡ word 0b011
  pub static_permitted_with : members (beside (RQ_static b ++ MO b)) (RT a ++ ST ++ LM (a ∷ b ∷ [])) ≡ word 0b111
  pub static_second_root : members (beside (MO b ++ RQ_static c ++ MO c)) (RT a ++ RT b) ≡ word 0b0111
  pub static_second_root_with : members (beside (MO b ++ RQ_static c ++ MO c)) (RT a ++ RT b ++ ST) ≡ word 0b1111
  pub static_of_required : members (requiring (MO b ++ RQ_static c ++ MO c)) (RT a) ≡ word 0b0111
  pub static_of_required_with : members (requiring (MO b ++ RQ_static c ++ MO c)) (RT a ++ ST) ≡ word 0b1111
  pub static_second : members (requiring (RQ_static c ++ MO b ++ MO c)) (RT a) ≡ word 0b0111
  pub static_second_with : members (requiring (RQ_static c ++ MO b ++ MO c)) (RT a ++ ST) ≡ word 0b1111
  pub static_of_base : members (base ++ RQ_static a ++ MO a) [] ≡ word 0b01
  pub static_of_base_with : members (base ++ RQ_static a ++ MO a) ST ≡ word 0b11
  pub static_of_automatic : members (base ++ MO_automatic a ++ RQ_static b ++ MO b) (RT a) ≡ word 0b011
  pub static_of_automatic_with : members (base ++ MO_automatic a ++ RQ_static b ++ MO b) (RT a ++ ST) ≡ word 0b111
  pub static_flags : members (beside (requires_with 0xFF 0xFF b ++ MO b)) (RT a) ≡ word 0b011
  pub static_flags_with : members (beside (requires_with 0xFF 0xFF b ++ MO b)) (RT a ++ ST) ≡ word 0b111
  pub static_added_read : members (beside (RQ_static b ++ MO b)) (RT a ++ AR a b) ≡ word 0b011
  pub static_added_read_with : members (beside (RQ_static b ++ MO b)) (RT a ++ AR a b ++ ST) ≡ word 0b111
  -- .. in a round neither, also of what a provider requires, and in a second one
  pub round_static : members (beside (US s ++ MO b ++ PV s ++ RQ_static c ++ MO c)) (RT a) ≡ word 0b0111
  pub round_static_with : members (beside (US s ++ MO b ++ PV s ++ RQ_static c ++ MO c)) (RT a ++ ST) ≡ word 0b1111
  pub round_static_of_required : members (beside (US s ++ MO b ++ PV s ++ RQ c ++ MO c ++ RQ_static t ++ MO t)) (RT a) ≡ word 0b01111
  pub round_static_of_required_with : members (beside (US s ++ MO b ++ PV s ++ RQ c ++ MO c ++ RQ_static t ++ MO t)) (RT a ++ ST) ≡ word 0b11111
  pub second_round_static : members (beside (US s ++ MO b ++ PV s ++ US t ++ MO c ++ PV t ++ RQ_static t ++ MO t)) (RT a) ≡ word 0b01111
  pub second_round_static_with : members (beside (US s ++ MO b ++ PV s ++ US t ++ MO c ++ PV t ++ RQ_static t ++ MO t)) (RT a ++ ST) ≡ word 0b11111
  -- with ST it is queued at its place among the others, behind the roots: b is resolved before c, and c before b; in a round likewise
  pub static_in_order : outcome (beside (RQ_static b ++ RQ c ++ MO b ++ PK p ++ MO c ++ PK p)) (RT a ++ ST) ≡ Err (SplitPackage 77 1 2 3)
  pub static_in_order_behind : outcome (beside (RQ c ++ RQ_static b ++ MO b ++ PK p ++ MO c ++ PK p)) (RT a ++ ST) ≡ Err (SplitPackage 61 1 3 2)
  pub static_in_order_both : outcome (beside (RQ_static c ++ RQ_static b ++ MO b ++ PK p ++ MO c ++ PK p)) (RT a ++ ST) ≡ Err (SplitPackage 61 1 3 2)
  pub static_behind_roots : outcome (beside (RQ_static b ++ MO b ++ PK p ++ MO c ++ PK p)) (RT a ++ RT c ++ ST) ≡ Err (SplitPackage 52 1 3 2)
  pub round_static_in_order : outcome (beside (US s ++ MO b ++ PV s ++ RQ_static c ++ RQ t ++ MO c ++ PK p ++ MO t ++ PK p)) (RT a ++ ST) ≡ Err (SplitPackage 101 1 3 4)
  pub round_static_in_order_behind : outcome (beside (US s ++ MO b ++ PV s ++ RQ t ++ RQ_static c ++ MO c ++ PK p ++ MO t ++ PK p)) (RT a ++ ST) ≡ Err (SplitPackage 85 1 4 3)
  -- with ST "a static one only if observable", and permitted; an absent one passes, also in a round
  pub static_absent : outcome (beside (RQ_static b)) (RT a) ≡ Ok tt
  pub static_absent_with : outcome (beside (RQ_static b)) (RT a ++ ST) ≡ Ok tt
  pub static_absent_permitted : outcome (beside (RQ_static b)) (RT a ++ LM (a ∷ b ∷ []) ++ ST) ≡ Ok tt
  pub static_not_permitted : members (beside (RQ_static b ++ MO b)) (RT a ++ LM (a ∷ []) ++ ST) ≡ word 0b011
  pub static_not_permitted_behind : members (beside (RQ_static b ++ MO b)) (RT a ++ ST ++ LM (a ∷ [])) ≡ word 0b011
  pub round_static_not_permitted : members (beside (US s ++ MO b ++ PV s ++ RQ_static c ++ MO c)) (RT a ++ LM (a ∷ b ∷ []) ++ ST) ≡ word 0b0111
  pub round_static_absent : members (beside (US s ++ MO b ++ PV s ++ RQ_static c)) (RT a ++ LM (a ∷ b ∷ [])) ≡ word 0b111
  pub round_static_absent_with : members (beside (US s ++ MO b ++ PV s ++ RQ_static c)) (RT a ++ LM (a ∷ b ∷ []) ++ ST) ≡ word 0b111
  -- with ST its module is handled as any other: its static requirements lead, what it uses is bound; what it requires and is absent
  -- refuses, in a round also where it is not permitted
  pub static_of_static_with : members (beside (RQ_static b ++ MO b ++ RQ_static c ++ MO c)) (RT a ++ ST) ≡ word 0b1111
  pub static_uses : members (beside (RQ_static b ++ MO b ++ US s ++ MO c ++ PV s)) (RT a) ≡ word 0b0011
  pub static_uses_with : members (beside (RQ_static b ++ MO b ++ US s ++ MO c ++ PV s)) (RT a ++ ST) ≡ word 0b1111
  pub static_needs : outcome (beside (RQ_static b ++ MO b ++ RQ c)) (RT a) ≡ Ok tt
  pub static_needs_with : outcome (beside (RQ_static b ++ MO b ++ RQ c)) (RT a ++ ST) ≡ Err (ModuleNotFound Set 54 1)
  pub round_static_needs : members (beside (US s ++ MO b ++ PV s ++ RQ_static c ++ MO c ++ RQ t)) (RT a ++ LM (a ∷ b ∷ c ∷ [])) ≡ word 0b0111
  pub round_static_needs_with : outcome (beside (US s ++ MO b ++ PV s ++ RQ_static c ++ MO c ++ RQ t)) (RT a ++ LM (a ∷ b ∷ c ∷ []) ++ ST) ≡ Err (ModuleNotFound Set 78 1)
  -- a name of a static and a non-static requirement comes in by the latter, and refuses by it where it is absent; so does that of a root,
  -- and one that another module requires
  pub static_and_not_static : members (beside (RQ_static b ++ RQ b ++ MO b)) (RT a) ≡ word 0b111
  pub not_static_and_static : members (beside (RQ b ++ RQ_static b ++ MO b)) (RT a) ≡ word 0b111
  pub static_then_needed : outcome (beside (RQ_static b ++ RQ b)) (RT a) ≡ Err (ModuleNotFound Set 44 1)
  pub static_then_needed_with : outcome (beside (RQ_static b ++ RQ b)) (RT a ++ ST) ≡ Err (ModuleNotFound Set 44 1)
  pub round_static_then_needed : outcome (beside (US s ++ MO b ++ PV s ++ RQ_static c ++ RQ c)) (RT a) ≡ Err (ModuleNotFound Set 68 1)
  pub round_static_then_needed_with : outcome (beside (US s ++ MO b ++ PV s ++ RQ_static c ++ RQ c)) (RT a ++ ST) ≡ Err (ModuleNotFound Set 68 1)
  pub static_and_root : outcome (beside (RQ_static b)) (RT a ++ RT b) ≡ Err (ModuleNotFound Request 11 1)
  pub static_and_root_with : outcome (beside (RQ_static b)) (RT a ++ RT b ++ ST) ≡ Err (ModuleNotFound Request 11 1)
  pub static_and_needed : outcome (requiring (RQ_static c ++ MO b ++ RQ c)) (RT a) ≡ Err (ModuleNotFound Set 63 1)
  pub static_and_needed_with : outcome (requiring (RQ_static c ++ MO b ++ RQ c)) (RT a ++ ST) ≡ Err (ModuleNotFound Set 63 1)
  -- it is not met: a provider of that name is bound, in the first round and in a later one, in set order with others
  pub static_provider : members (beside (RQ_static b ++ US s ++ MO b ++ PV s)) (RT a) ≡ word 0b111
  pub round_static_provider : members (beside (US s ++ MO b ++ PV s ++ RQ_static c ++ US t ++ MO c ++ PV t)) (RT a) ≡ word 0b1111
  pub static_transitive_provider : members (beside (requires_with 0 0x60 b ++ US s ++ MO b ++ PV s)) (RT a) ≡ word 0b111
  pub static_provider_in_order : outcome (beside (RQ_static c ++ US s ++ MO b ++ PV s ++ PK p ++ MO c ++ PV s ++ PK p)) (RT a) ≡ Err (SplitPackage 90 1 2 3)
  -- .. in a round and not before: what b requires is absent and not permitted, and refuses there; with ST it is skipped before
  pub static_provider_needs : outcome (beside (RQ_static b ++ US s ++ MO b ++ PV s ++ RQ c)) (RT a ++ LM (a ∷ b ∷ [])) ≡ Err (ModuleNotFound Set 68 1)
  pub static_provider_needs_with : members (beside (RQ_static b ++ US s ++ MO b ++ PV s ++ RQ c)) (RT a ++ LM (a ∷ b ∷ []) ++ ST) ≡ word 0b111
  -- it does not let an absent name pass in a round, nor does what its module requires where that is not resolved
  pub round_static_not_met : outcome (beside (US s ++ RQ_static c ++ MO b ++ PV s ++ RQ c)) (RT a ++ LM (a ∷ b ∷ [])) ≡ Err (ModuleNotFound Set 68 1)
  pub round_static_not_met_with : outcome (beside (US s ++ RQ_static c ++ MO b ++ PV s ++ RQ c)) (RT a ++ LM (a ∷ b ∷ []) ++ ST) ≡ Err (ModuleNotFound Set 68 1)
  pub round_static_not_met_all : outcome (beside (US s ++ RQ_static c ++ MO b ++ PV s ++ RQ c)) (RT a) ≡ Err (ModuleNotFound Set 68 1)
  pub round_static_not_met_all_with : outcome (beside (US s ++ RQ_static c ++ MO b ++ PV s ++ RQ c)) (RT a ++ ST) ≡ Err (ModuleNotFound Set 68 1)
  pub round_static_not_resolved : outcome (beside (US s ++ RQ_static c ++ MO b ++ PV s ++ RQ t ++ MO c ++ RQ t)) (RT a ++ LM (a ∷ b ∷ c ∷ [])) ≡ Err (ModuleNotFound Set 68 1)
  pub round_static_not_resolved_with : members (beside (US s ++ RQ_static c ++ MO b ++ PV s ++ RQ t ++ MO c ++ RQ t)) (RT a ++ LM (a ∷ b ∷ c ∷ []) ++ ST) ≡ word 0b1111
  -- "the edge exists if both modules are resolved by other means"; a static transitive one passes on, of java.base too, and no other
  -- static one; transitive ones of the module that a static one names pass on
  pub reads_static : reads (beside (RQ_static b ++ MO b)) (RT a ++ RT b) a b ≡ true
  pub reads_static_with : reads (beside (RQ_static b ++ MO b)) (RT a ++ ST) a b ≡ true
  pub reads_static_provider : reads (beside (RQ_static b ++ US s ++ MO b ++ PV s)) (RT a) a b ≡ true
  pub reads_static_of_base : reads (base ++ RQ_static a ++ MO a) (RT a) java_base a ≡ true
  pub reads_static_unresolved : reads (beside (RQ_static b ++ MO b)) (RT a) a b ≡ false
  pub reads_static_implied : reads (requiring (MO b ++ requires_with 0 0x60 c ++ MO c)) (RT a ++ RT c) a c ≡ true
  pub reads_static_implied_with : reads (requiring (MO b ++ requires_with 0 0x60 c ++ MO c)) (RT a ++ ST) a c ≡ true
  pub reads_static_implied_twice : reads (requiring (MO b ++ requires_with 0 0x60 c ++ MO c ++ requires_with 0 0x60 t ++ MO t)) (RT a ++ ST) a t ≡ true
  pub reads_static_then_transitive : reads (requiring (MO b ++ RQ_static c ++ RQ_transitive c ++ MO c)) (RT a) a c ≡ true
  pub reads_transitive_then_not : reads (requiring (MO b ++ requires_with 0 0x60 c ++ RQ c ++ MO c)) (RT a) a c ≡ true
  pub reads_static_not_implied : reads (requiring (MO b ++ RQ_static c ++ MO c)) (RT a ++ RT c) a c ≡ false
  pub reads_static_not_implied_with : reads (requiring (MO b ++ RQ_static c ++ MO c)) (RT a ++ ST) a c ≡ false
  pub reads_static_from_base : reads (base ++ requires_with 0 0x60 b ++ MO a ++ MO b) (RT a ++ RT b) a b ≡ true
  pub reads_static_from_base_with : reads (base ++ requires_with 0 0x60 b ++ MO a ++ MO b) (RT a ++ ST) a b ≡ true
  pub reads_static_not_from_base : reads (base ++ RQ_static b ++ MO a ++ MO b) (RT a ++ RT b) a b ≡ false
  pub reads_static_then_implied : reads (beside (RQ_static b ++ MO b ++ RQ_transitive c ++ MO c)) (RT a ++ RT b) a c ≡ true
  pub reads_static_then_implied_with : reads (beside (RQ_static b ++ MO b ++ RQ_transitive c ++ MO c)) (RT a ++ ST) a c ≡ true
  -- 7 is of the modules resolved
  pub static_split : outcome (beside (RQ_static b ++ PK p ++ MO b ++ PK p)) (RT a) ≡ Ok tt
  pub static_split_with : outcome (beside (RQ_static b ++ PK p ++ MO b ++ PK p)) (RT a ++ ST) ≡ Err (SplitPackage 58 1 1 2)
  -- a module of another place is brought in; a hidden requirement brings nothing in
  pub static_place_with : members (beside (RQ_static b ++ PL ++ MO b)) (RT a ++ ST) ≡ word 0b111
  pub static_hidden_with : members (beside (MO b ++ PL ++ MO a ++ RQ_static b)) (RT a ++ ST) ≡ word 0b011
  -- "A grown request may gain ST but not drop it"
  pub gained : Grows (beside (RQ_static b ++ MO b)) (RT a) (beside (RQ_static b ++ MO b)) (RT a ++ ST)
  -- .. b, resolved in the first, is lost without ST, all else the same
  pub dropped_from : request_of (RT a ++ ST) ≡ record { roots = a ∷ []; limit = none; add_reads = []; add_exports = []; add_opens = []; has_static = true }
  pub dropped_to : request_of (RT a) ≡ record { roots = a ∷ []; limit = none; add_reads = []; add_exports = []; add_opens = []; has_static = false }
  pub dropped_first : outcome (beside (RQ_static b ++ MO b)) (RT a ++ ST) ≡ Ok tt
  pub dropped_second : outcome (beside (RQ_static b ++ MO b)) (RT a) ≡ Ok tt
  pub dropped_member : is_member (beside (RQ_static b ++ MO b)) (resolved_to (beside (RQ_static b ++ MO b)) (RT a ++ ST)) b ≡ true
  pub dropped_lost : is_member (beside (RQ_static b ++ MO b)) (resolved_to (beside (RQ_static b ++ MO b)) (RT a)) b ≡ false
  -- questions take a request with ST
  pub static_asked : access (beside (RQ_static b ++ MO b)) (RT a ++ ST ++ AE b p a) a b p ≡ Ok Allowed
  pub static_twice_asked : access base (ST ++ ST) a a p ≡ Err (Malformed Request 4)
  -- "with empty body .. at most once", in the request alone; LM and ST do not count for each other
  pub static_once : outcome base (LM [] ++ ST) ≡ Ok tt
  pub static_twice : outcome base (ST ++ ST) ≡ Err (Malformed Request 4)
  pub static_twice_apart : outcome base (ST ++ LM [] ++ ST) ≡ Err (Malformed Request 10)
  pub static_twice_later : outcome base (ST ++ RT java_base ++ ST) ≡ Err (Malformed Request 18)
  pub static_twice_reads : outcome base (ST ++ AR a b ++ ST) ≡ Err (Malformed Request 12)
  pub limit_twice_apart : outcome base (LM [] ++ ST ++ LM []) ≡ Err (Malformed Request 10)
  pub static_filled : outcome base (marked 83 84 (0 ∷ [])) ≡ Err (Malformed Request 0)
  pub static_named : outcome base (marked 83 84 (named a)) ≡ Err (Malformed Request 0)
  pub static_long : outcome base (83 ∷ 84 ∷ 1 ∷ 0 ∷ replicate 256 0) ≡ Err (Malformed Request 0)
  pub static_in_set : outcome (base ++ ST) [] ≡ Err (Malformed Set 18)
  pub static_first_in_set : outcome (ST ++ base) [] ≡ Err (Malformed Set 0)
  pub static_in_packages : JarRead only_jar false [] (PK q ++ ST) (9 ∷ []) (9 ∷ []) (Err (Malformed Packages 6))
