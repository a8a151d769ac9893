-- Cases of the rules that document 01's ten (`Cases`) do not pin, of the definitions over bytes, and those of U2. `StaticCases` has
-- those of static requirements (U6). Where a row tells positions, java.base has 0, and a, b and c have 1, 2 and 3; the lowest bit of a
-- word is java.base's.
use Rattle.std.specs.Prelude.{ℕ, ◌≡◌, Bool, true, false, List, [], ◌∷◌, ◌++◌, map, take, drop, replicate}
use Rattle.records.specs.Name.{java_base, all_unnamed}
use Rattle.records.specs.Set.{check_set, accepted}
use Rattle.records.specs.Places.{places}
use Rattle.records.specs.Finder.{visible_blocks}
use Rattle.records.specs.Error.{input_number, number_of, particulars_of}
use Rattle.records.specs.Automatic.{derived_name}
use Rattle.records.specs.Jar.{JarRead}
use Rattle.records.specs.Cases.{only_jar}
use Rattle.records.specs.declared.error.Input.TheVariants.{Set, Request, Packages}
use Rattle.records.specs.declared.error.ModuleError.{ModuleError}
use Rattle.records.specs.declared.error.ModuleError.TheVariants.{Malformed, TooLarge, Repeated, OutputTooShort, ModuleNotFound, JavaBaseNotFound, SplitPackage, DescriptorParseError, InvalidAutomaticModuleName, InvalidModuleName}
use Rattle.resolution.specs.Configuration.{member_words, member_bit, edge_bit, unnamed_bit}
use Rattle.resolution.specs.Lists.{Name}
use Rattle.resolution.specs.PackageOwner.{find_module_for_package}
use Rattle.resolution.specs.Resolve.{resolve}
use Rattle.resolution.specs.Absent.{absent_name}
use Rattle.resolution.specs.Cases.{a, b, c}
use Rattle.resolution.specs.Resolve.{Outcome}
use Rattle.access.specs.Access.{reads_name, is_reflection, check_access}
use Rattle.access.specs.CanRead.{can_read}
use Rattle.access.specs.Cases.{p, lent, resolved_to}
use Rattle.access.specs.Demand3.{configuration}
use Rattle.access.specs.Form.{marked, named, module_with, requires_with, MO, MO_open, MO_automatic, RQ, RQ_transitive, EX, OP, US, PV, PK, MC, PL, RT, LM, AR, AE, AO}
use Rattle.access.specs.PlaceCases.{q, PlaceCases}
use Rattle.access.specs.ReadGraph.{reads_at, Leads, readers_of, transitive_reads}
use Rattle.access.specs.declared.access.AccessKind.TheVariants.{Access, Reflection}
use Rattle.access.specs.Access.{AccessAnswer}
use Rattle.access.specs.declared.access.AccessCheckResult.TheVariants.{Allowed, NotReadable, NotExported, NotOpened}
use Rattle.std.specs.Prelude.{Ok, Err}

-- the services s and t
unfoldable pub s : Name
s = 115 ∷ []

unfoldable pub t : Name
t = 116 ∷ []

-- ---- sets

unfoldable pub base : List ℕ
base = MO java_base

-- java.base; a, which requires nothing; then these records
unfoldable pub beside : List ℕ → List ℕ
unfolding base
beside m = base ++ MO a ++ m

-- java.base; a (RQ b); then these records
unfoldable pub requiring : List ℕ → List ℕ
unfolding base
requiring m = base ++ MO a ++ RQ b ++ m

-- java.base; a (RQ b); b (RQ c); c. The second requirement is transitive, or is not
unfoldable pub chain : List ℕ
unfolding requiring
chain = requiring (MO b ++ RQ_transitive c ++ MO c)

unfoldable pub chain_broken : List ℕ
unfolding requiring
chain_broken = requiring (MO b ++ RQ c ++ MO c)

-- java.base; a (US s); b (PV s, US t); c (PV t)
unfoldable pub services : List ℕ
unfolding beside
services = beside (US s ++ MO b ++ PV s ++ US t ++ MO c ++ PV t)

-- java.base; a (PK q, PK p); b (PK q, PK p): the packages are not in byte order
unfoldable pub sharing : List ℕ
unfolding beside
sharing = beside (PK q ++ PK p ++ MO b ++ PK q ++ PK p)

-- seven PL
unfoldable pub PL7 : List ℕ
PL7 = PL ++ PL ++ PL ++ PL ++ PL ++ PL ++ PL

-- ---- a jar

-- "x/-a--b--2-c.jar", whose name is "a.b"
unfoldable pub jar_name : List ℕ
jar_name = 120 ∷ 47 ∷ 45 ∷ 97 ∷ 45 ∷ 45 ∷ 98 ∷ 45 ∷ 45 ∷ 50 ∷ 45 ∷ 99 ∷ 46 ∷ 106 ∷ 97 ∷ 114 ∷ []

unfoldable pub jar_module : Name
jar_module = 97 ∷ 46 ∷ 98 ∷ []

-- its records with the packages p and q: 73 bytes
unfoldable pub jar_records : List ℕ
unfolding jar_module
jar_records = MO_automatic jar_module ++ requires_with 0x80 0 java_base ++ EX p [] ++ EX q [] ++ OP p [] ++ OP q [] ++ PK p ++ PK q

-- ---- questions, over the configuration that the set and the request resolve to

abbrev pub outcome : List ℕ → List ℕ → Outcome
outcome set rq = (resolve set rq lent).outcome

abbrev pub members : List ℕ → List ℕ → List ℕ
members set rq = member_words (resolved_to set rq)

-- x reads y
abbrev pub reads : List ℕ → List ℕ → Name → Name → Bool
reads set rq x y = reads_name set (resolved_to set rq) x y

abbrev pub access : List ℕ → List ℕ → Name → Name → Name → AccessAnswer
access set rq asker target pkg = check_access (is_reflection Access) set rq (resolved_to set rq) asker target pkg

abbrev pub reflection : List ℕ → List ℕ → Name → Name → Name → AccessAnswer
reflection set rq asker target pkg = check_access (is_reflection Reflection) set rq (resolved_to set rq) asker target pkg

-- these positions below 64, as eight words
abbrev pub word : ℕ → List ℕ
word w = w ∷ 0 ∷ 0 ∷ 0 ∷ 0 ∷ 0 ∷ 0 ∷ 0 ∷ []

-- members as given, and one edge: from a to b
abbrev pub edge_from_a : ℕ → List ℕ
edge_from_a w = word w ++ replicate 9 0 ++ (4 ∷ replicate 4598 0)

-- one refusal of each kind
abbrev pub errors : List ModuleError
errors = Malformed Packages 11 ∷ TooLarge 12 ∷ Repeated 13 ∷ OutputTooShort 14 ∷ ModuleNotFound Request 15 16 ∷ JavaBaseNotFound ∷ SplitPackage 17 18 19 20 ∷ DescriptorParseError 21 ∷ InvalidAutomaticModuleName ∷ InvalidModuleName ∷ []

pub record RuleCases : Type 0 where
  -- ---- the words of a configuration (U12)
  -- "A shorter slice is an output too short, number 4 with 4,616, tested after the records and before resolution": an empty set,
  -- which is 6, is 4, a malformed request is 1
  pub words_short : (resolve base [] (replicate 4615 7)).outcome ≡ Err (OutputTooShort 4616)
  pub words_enough : (resolve base [] (replicate 4616 7)).outcome ≡ Ok tt
  pub words_before_resolution : (resolve [] [] []).outcome ≡ Err (OutputTooShort 4616)
  pub words_after_set : (resolve (80 ∷ []) [] []).outcome ≡ Err (Malformed Set 0)
  pub words_after_request : (resolve base (80 ∷ []) []).outcome ≡ Err (Malformed Request 0)
  -- "words beyond stay unchanged, and a refusal changes none"
  pub words_beyond : drop 4616 (configuration base [] (replicate 4618 7)) ≡ 7 ∷ 7 ∷ []
  pub words_kept : configuration base (RT b) (replicate 4617 7) ≡ replicate 4617 7
  pub words_short_kept : configuration base [] (replicate 4615 7) ≡ replicate 4615 7
  -- "in questions too"
  pub words_asked : check_access (is_reflection Access) base [] (replicate 4615 0) a b p ≡ Err (OutputTooShort 4616)
  pub words_asked_after : check_access (is_reflection Access) base (80 ∷ []) [] a b p ≡ Err (Malformed Request 0)
  pub words_read : can_read base [] a a ≡ Err (OutputTooShort 4616)
  pub words_read_after : can_read (80 ∷ []) [] a a ≡ Err (Malformed Set 0)
  pub words_readers : readers_of base [] a ≡ Err (OutputTooShort 4616)
  pub words_transitive : transitive_reads base [] a ≡ Err (OutputTooShort 4616)
  pub words_owner : find_module_for_package base [] p ≡ Err (OutputTooShort 4616)
  -- "eight for the members, then for each module eight for its edges and one whose lowest bit is ALL-UNNAMED": java.base; a, which reads it
  -- and by AR itself and ALL-UNNAMED
  pub words_laid : take 26 (configuration (base ++ MO a) (RT a ++ AR a a ++ AR a all_unnamed) (replicate 4616 7))
      ≡ 3 ∷ 0 ∷ 0 ∷ 0 ∷ 0 ∷ 0 ∷ 0 ∷ 0 ∷ 0 ∷ 0 ∷ 0 ∷ 0 ∷ 0 ∷ 0 ∷ 0 ∷ 0 ∷ 0 ∷ 3 ∷ 0 ∷ 0 ∷ 0 ∷ 0 ∷ 0 ∷ 0 ∷ 0 ∷ 1 ∷ []
  -- ".. all other bits and rows of non-members zero": the rows behind, and that of a module that is not resolved
  pub words_rest : drop 26 (configuration (base ++ MO a) (RT a ++ AR a a ++ AR a all_unnamed) (replicate 4616 7)) ≡ replicate 4590 0
  pub words_of_others : configuration (base ++ MO a) [] (replicate 4616 7) ≡ 1 ∷ replicate 4615 0
  -- "lowest bit first", at the first position of a second word and at the last of all
  pub words_second : map (member_bit (0 ∷ 1 ∷ [])) (63 ∷ 64 ∷ 65 ∷ []) ≡ false ∷ true ∷ false ∷ []
  pub words_last_edge : edge_bit (replicate 4614 0 ++ (9223372036854775808 ∷ [])) 511 511 ≡ true
  pub words_last : unnamed_bit (replicate 4615 0 ++ (1 ∷ [])) 511 ≡ true
  -- of a ninth word the lowest bit alone is read
  pub words_ninth : reads_name (base ++ MO a) (word 3 ++ replicate 9 0 ++ (replicate 8 0 ++ (2 ∷ replicate 4590 0))) a all_unnamed ≡ false
  pub words_ninth_odd : reads_name (base ++ MO a) (word 3 ++ replicate 9 0 ++ (replicate 8 0 ++ (3 ∷ replicate 4590 0))) a all_unnamed ≡ true
  -- ---- reads
  -- "then AR": an edge, and none backwards; without it there is none
  pub add_read : reads (beside (MO b)) (RT a ++ RT b ++ AR a b) a b ≡ true
  pub add_read_back : reads (beside (MO b)) (RT a ++ RT b ++ AR a b) b a ≡ false
  pub add_read_none : reads (beside (MO b)) (RT a ++ RT b) a b ≡ false
  -- "Edges to unresolved names go": AR makes no member
  pub add_read_unresolved : reads (beside (MO b)) (RT a ++ AR a b) a b ≡ false
  pub add_read_members : members (beside (MO b)) (RT a ++ AR a b) ≡ word 0b011
  pub add_read_of_unresolved : map (unnamed_bit (resolved_to (beside (MO b)) (RT a ++ AR b all_unnamed))) (0 ∷ 1 ∷ 2 ∷ []) ≡ false ∷ false ∷ false ∷ []
  -- ".. ALL-UNNAMED stays": it is read by a alone
  pub add_read_unnamed : map (unnamed_bit (resolved_to (beside (MO b)) (RT a ++ RT b ++ AR a all_unnamed))) (0 ∷ 1 ∷ 2 ∷ []) ≡ false ∷ true ∷ false ∷ []
  pub add_read_unnamed_asked : access (beside (MO b)) (RT a ++ RT b ++ AR a all_unnamed) a all_unnamed p ≡ Ok NotExported
  pub add_read_unnamed_not : access (beside (MO b)) (RT a ++ RT b ++ AR a all_unnamed) b all_unnamed p ≡ Ok NotReadable
  -- "an automatic module reads all others": not itself, nor ALL-UNNAMED; and they do not read it
  pub automatic_reads : reads (base ++ MO_automatic a ++ MO b) (RT a ++ RT b) a b ≡ true
  pub automatic_reads_itself : reads (base ++ MO_automatic a ++ MO b) (RT a ++ RT b) a a ≡ false
  pub automatic_reads_unnamed : reads (base ++ MO_automatic a ++ MO b) (RT a ++ RT b) a all_unnamed ≡ false
  pub automatic_reads_back : reads (base ++ MO_automatic a ++ MO b) (RT a ++ RT b) b a ≡ false
  -- "own requirements and java.base (not for itself)"
  pub reads_own : reads (requiring (MO b)) (RT a) a b ≡ true
  pub reads_own_unresolved : reads (requiring (MO b)) (RT a ++ LM (a ∷ [])) a b ≡ false
  pub reads_base : reads (beside []) (RT a) a java_base ≡ true
  pub reads_base_itself : reads (beside []) (RT a) java_base java_base ≡ false
  -- "then whatever one or more transitive requirements reach from these": through a requirement that is not transitive nothing is
  -- reached, nor from AR's target
  pub reads_implied : reads chain (RT a) a c ≡ true
  pub reads_implied_twice : reads (chain ++ RQ_transitive t ++ MO t) (RT a) a t ≡ true
  pub reads_not_implied : reads chain_broken (RT a) a c ≡ false
  pub reads_not_from_added : reads (beside (MO b ++ RQ_transitive c ++ MO c)) (RT a ++ RT b ++ AR a b) a c ≡ false
  -- .. through modules resolved alone, and from java.base too
  pub reads_not_through : reads chain (RT a ++ RT c ++ LM (a ∷ c ∷ [])) a c ≡ false
  pub reads_from_base : reads (base ++ RQ_transitive b ++ MO a ++ MO b) (RT a) a b ≡ true
  -- "an edge counts if its source is a member": over any configuration
  pub edge_counts : check_access (is_reflection Access) (beside (MO b ++ EX p [])) [] (edge_from_a 0b110) a b p ≡ Ok Allowed
  pub edge_of_non_member : check_access (is_reflection Access) (beside (MO b ++ EX p [])) [] (edge_from_a 0b100) a b p ≡ Ok NotReadable
  -- its target need not be one: it is readable, and its EX grants nothing
  pub edge_to_non_member : check_access (is_reflection Access) (beside (MO b ++ EX p [])) [] (edge_from_a 0b010) a b p ≡ Ok NotExported
  -- "`transitive_reads` (one edge or more)": from a to b, and through b to c, which a does not read
  pub one_edge : Leads (reads_at chain_broken (resolved_to chain_broken (RT a))) 1 2
  pub two_edges : Leads (reads_at chain_broken (resolved_to chain_broken (RT a))) 1 3
  pub transitive : transitive_reads chain_broken (resolved_to chain_broken (RT a)) a ≡ Ok (record { row = word 0b1101; unnamed = false })
  pub transitive_unnamed : transitive_reads chain_broken (resolved_to chain_broken (RT a ++ AR c all_unnamed)) a ≡ Ok (record { row = word 0b1101; unnamed = true })
  -- "a name without any gives the empty set"
  pub transitive_none : transitive_reads chain_broken (resolved_to chain_broken (RT a)) t ≡ Ok (record { row = word 0; unnamed = false })
  -- `readers_of`; `can_read`: by an edge, java.base, and the same name, known or not
  pub readers : readers_of chain (resolved_to chain (RT a)) c ≡ Ok (record { row = word 0b0110; unnamed = false })
  pub can_read_lem : can_read chain (resolved_to chain (RT a)) a c ≡ Ok true
  pub can_read_back : can_read chain (resolved_to chain (RT a)) c a ≡ Ok false
  pub can_read_base : can_read chain (resolved_to chain (RT a)) t java_base ≡ Ok true
  pub can_read_itself : can_read chain (resolved_to chain (RT a)) t t ≡ Ok true
  pub can_read_unknown : can_read chain (resolved_to chain (RT a)) t a ≡ Ok false
  -- ---- which modules start
  -- a requirement that is not static refuses where it is absent
  pub not_static_absent : outcome (beside (RQ b)) (RT a) ≡ Err (ModuleNotFound Set 35 1)
  pub not_static_name : absent_name (beside (RQ b)) (RT a) (outcome (beside (RQ b)) (RT a)) ≡ b
  -- a module that nothing leads to requires nothing
  pub absent_not_reached : outcome (beside (MO b ++ RQ c)) (RT a) ≡ Ok tt
  -- "A name taken from the queue that is not permitted is skipped (java.base always passes)": LM leaves out a required module,
  -- which may be absent then, and what that one alone requires
  pub limit_accepted : outcome (requiring (MO b)) (RT a ++ LM (a ∷ [])) ≡ Ok tt
  pub limit_members : members (requiring (MO b)) (RT a ++ LM (a ∷ [])) ≡ word 0b011
  pub limit_none : members (requiring (MO b)) (RT a) ≡ word 0b111
  pub limit_absent : outcome (requiring []) (RT a ++ LM (a ∷ [])) ≡ Ok tt
  pub limit_behind : members chain (RT a ++ LM (a ∷ c ∷ [])) ≡ word 0b0011
  -- "all unmet, permitted, observable providers of services used by resolved modules": c is found in the second round, and neither
  -- b nor c where b is not permitted
  pub second_round : members services (RT a) ≡ word 0b1111
  pub provider_not_permitted : members services (RT a ++ LM (a ∷ c ∷ [])) ≡ word 0b0011
  pub provider_not_used : members services [] ≡ word 0b0001
  -- ".. in set order": b is resolved before c
  pub providers_in_order : outcome (beside (US s ++ MO b ++ PV s ++ PK p ++ MO c ++ PV s ++ PK p)) (RT a) ≡ Err (SplitPackage 81 1 2 3)
  -- "Here a non-static requirement that is absent and not met before refuses as its requirer is handled, permitted or not";
  -- one that a requires too passes, which was queued and skipped before the round
  pub round_absent : outcome (beside (US s ++ MO b ++ PV s ++ RQ c)) (RT a ++ LM (a ∷ b ∷ [])) ≡ Err (ModuleNotFound Set 59 1)
  pub round_met : members (beside (US s ++ RQ c ++ MO b ++ PV s ++ RQ c)) (RT a ++ LM (a ∷ b ∷ [])) ≡ word 0b111
  -- "roots in order, repeats dropped; java.base in front unless it is a root": 5 and 6 as met
  pub roots_repeated : members (beside (PK p)) (RT a ++ RT a) ≡ word 0b11
  pub base_first : outcome (MO a) (RT b) ≡ Err JavaBaseNotFound
  pub base_root : outcome (MO a) (RT b ++ RT java_base) ≡ Err (ModuleNotFound Request 5 1)
  pub base_absent : outcome (MO a) (RT java_base) ≡ Err JavaBaseNotFound
  -- the queue is in order: of two absent names the first that was queued refuses, "the record that first queued it" told
  pub queue-requires : outcome (beside (RQ c ++ RQ b)) (RT a) ≡ Err (ModuleNotFound Set 35 1)
  pub queue_root_first : outcome (requiring []) (RT a ++ RT c) ≡ Err (ModuleNotFound Request 11 1)
  pub queue_first_record : outcome (beside (RQ c ++ MO b ++ RQ c)) (RT a ++ RT b) ≡ Err (ModuleNotFound Set 35 1)
  -- 7: "packages, in byte order, are tested for another owner": package p of the second module, the owner, the second; the second is
  -- the later in the queue. The lent words stay
  pub split : outcome sharing (RT a ++ RT b) ≡ Err (SplitPackage 61 1 1 2)
  pub split_words : configuration sharing (RT a ++ RT b) (replicate 4616 7) ≡ replicate 4616 7
  pub split_back : outcome sharing (RT b ++ RT a) ≡ Err (SplitPackage 39 1 2 1)
  -- the first PK of the package is told; and packages are tested before requirements
  pub split_first : outcome (beside (PK p ++ MO b ++ PK p ++ PK p)) (RT a ++ RT b) ≡ Err (SplitPackage 49 1 1 2)
  pub split_before_absent : outcome (beside (US s ++ PK p ++ MO b ++ PV s ++ PK p ++ RQ c)) (RT a) ≡ Err (SplitPackage 63 1 1 2)
  pub split_not_resolved : outcome sharing (RT a) ≡ Ok tt
  -- ---- access and reflection
  -- "Asker equal to target: Allowed, known or not"
  pub itself : access (beside []) (RT a) a a p ≡ Ok Allowed
  pub itself_unknown : access base [] c c p ≡ Ok Allowed
  pub itself_unnamed : reflection base [] all_unnamed all_unnamed p ≡ Ok Allowed
  -- "A named asker needs a read edge or target java.base"
  pub not_readable : access (beside (MO b ++ EX p [])) (RT a ++ RT b) a b p ≡ Ok NotReadable
  pub base_readable : access (base ++ EX p []) [] c java_base p ≡ Ok Allowed
  -- EX without OP is NotOpened, and OP without EX NotExported
  pub exported : access (requiring (MO b ++ EX p [])) (RT a) a b p ≡ Ok Allowed
  pub exported_not_opened : reflection (requiring (MO b ++ EX p [])) (RT a) a b p ≡ Ok NotOpened
  pub opened_not_exported : access (requiring (MO b ++ OP p [])) (RT a) a b p ≡ Ok NotExported
  pub opened : reflection (requiring (MO b ++ OP p [])) (RT a) a b p ≡ Ok Allowed
  -- targets; "the first EX (OP) of the package decides alone"
  pub target : access (requiring (MO b ++ EX q [] ++ EX p (c ∷ a ∷ []))) (RT a) a b p ≡ Ok Allowed
  pub other_target : access (requiring (MO b ++ EX q [] ++ EX p (c ∷ []))) (RT a) a b p ≡ Ok NotExported
  pub other_target_unnamed : access (requiring (MO b ++ EX p (all_unnamed ∷ []))) (RT a) a b p ≡ Ok NotExported
  pub first_opens : reflection (requiring (MO b ++ OP p (c ∷ []) ++ OP p [])) (RT a) a b p ≡ Ok NotOpened
  -- "an AE (AO) of that package with the target as source and the asker as target allows": AE access and not reflection, AO the
  -- other way
  pub add_export : access (requiring (MO b)) (RT a ++ AE b p a) a b p ≡ Ok Allowed
  pub add_export_not_open : reflection (requiring (MO b)) (RT a ++ AE b p a) a b p ≡ Ok NotOpened
  pub add_open_not_export : access (requiring (MO b)) (RT a ++ AO b p a) a b p ≡ Ok NotExported
  pub add_open : reflection (requiring (MO b)) (RT a ++ AO b p a) a b p ≡ Ok Allowed
  pub add_export_package : access (requiring (MO b)) (RT a ++ AE b q a) a b p ≡ Ok NotExported
  pub add_export_source : access (requiring (MO b)) (RT a ++ AE a p b) a b p ≡ Ok NotExported
  pub add_export_other_source : access (requiring (MO b)) (RT a ++ AE c p a) a b p ≡ Ok NotExported
  pub add_export_target : access (requiring (MO b)) (RT a ++ AE b p c) a b p ≡ Ok NotExported
  pub add_export_to_unnamed : access (requiring (MO b)) (RT a ++ AE b p all_unnamed) a b p ≡ Ok NotExported
  pub add_export_unread : access (beside (MO b)) (RT a ++ RT b ++ AE b p a) a b p ≡ Ok NotReadable
  -- "for reflection also open": an open module decides by its PK, in place of its entries, for reflection alone; one that is not open
  -- by its entries. Also for ALL-UNNAMED
  pub open_package : reflection (requiring (MO_open b ++ PK p ++ OP q [])) (RT a) a b p ≡ Ok Allowed
  pub open_entry : reflection (requiring (MO_open b ++ PK p ++ OP q [])) (RT a) a b q ≡ Ok NotOpened
  pub open_access : access (requiring (MO_open b ++ PK p ++ OP q [])) (RT a) a b p ≡ Ok NotExported
  pub open_unnamed : reflection (requiring (MO_open b ++ PK p ++ OP q [])) (RT a) all_unnamed b p ≡ Ok Allowed
  pub open_unnamed_entry : reflection (requiring (MO_open b ++ PK p ++ OP q [])) (RT a) all_unnamed b q ≡ Ok NotOpened
  pub not_open_package : reflection (requiring (MO b ++ PK p ++ OP q [])) (RT a) a b p ≡ Ok NotOpened
  pub not_open_entry : reflection (requiring (MO b ++ PK p ++ OP q [])) (RT a) a b q ≡ Ok Allowed
  -- "Other flag bits of MO and RQ mean nothing": all but open, all; all but transitive and static, all
  pub other_flags : reflection (requiring (module_with 0xDF 0 b ++ PK p)) (RT a) a b p ≡ Ok NotOpened
  pub other_flags_open : reflection (requiring (module_with 0xFF 0 b ++ PK p)) (RT a) a b p ≡ Ok Allowed
  pub other_flags_required : outcome (beside (requires_with 0xFF 0x9F b)) (RT a) ≡ Err (ModuleNotFound Set 35 1)
  pub other_flags_static : outcome (beside (requires_with 0xFF 0xFF b)) (RT a) ≡ Ok tt
  pub other_flags_implied : reads (requiring (MO b ++ requires_with 0xFF 0xDF c ++ MO c)) (RT a ++ RT c) a c ≡ false
  -- an automatic target decides by its PK, for access and for reflection; an override helps a named asker
  pub automatic_package : access (requiring (MO_automatic b ++ PK p ++ EX q [])) (RT a) a b p ≡ Ok Allowed
  pub automatic_reflection : reflection (requiring (MO_automatic b ++ PK p ++ EX q [])) (RT a) a b p ≡ Ok Allowed
  pub automatic_entry : access (requiring (MO_automatic b ++ PK p ++ EX q [])) (RT a) a b q ≡ Ok NotExported
  pub automatic_override : access (requiring (MO_automatic b ++ PK p)) (RT a ++ AE b q a) a b q ≡ Ok Allowed
  -- asker ALL-UNNAMED: "an automatic target decides by PK and no override helps; else an override for ALL-UNNAMED allows"
  pub unnamed_automatic : access (requiring (MO_automatic b ++ PK p)) (RT a) all_unnamed b p ≡ Ok Allowed
  pub unnamed_automatic_reflection : reflection (requiring (MO_automatic b ++ PK p)) (RT a) all_unnamed b p ≡ Ok Allowed
  pub unnamed_automatic_override : access (requiring (MO_automatic b ++ PK p)) (RT a ++ AE b q all_unnamed) all_unnamed b q ≡ Ok NotExported
  pub unnamed_automatic_open : reflection (requiring (MO_automatic b ++ PK p)) (RT a ++ AO b q all_unnamed) all_unnamed b q ≡ Ok NotOpened
  pub unnamed_package : access (requiring (MO b ++ PK p)) (RT a) all_unnamed b p ≡ Ok NotExported
  pub unnamed_override : access (requiring (MO b ++ PK p)) (RT a ++ AE b q all_unnamed) all_unnamed b q ≡ Ok Allowed
  pub unnamed_override_open : reflection (requiring (MO b ++ PK p)) (RT a ++ AO b q all_unnamed) all_unnamed b q ≡ Ok Allowed
  pub unnamed_override_kind : reflection (requiring (MO b)) (RT a ++ AE b q all_unnamed) all_unnamed b q ≡ Ok NotOpened
  pub unnamed_override_target : access (requiring (MO b)) (RT a ++ AE b q a) all_unnamed b q ≡ Ok NotExported
  pub unnamed_override_package : access (requiring (MO b)) (RT a ++ AE b p all_unnamed) all_unnamed b q ≡ Ok NotExported
  pub unnamed_override_source : access (requiring (MO b)) (RT a ++ AE a q all_unnamed) all_unnamed b q ≡ Ok NotExported
  -- "or the package's first entry if unqualified or naming ALL-UNNAMED": no read edge is needed
  pub unnamed_entry : access (base ++ MO a ++ EX p []) (RT a) all_unnamed a p ≡ Ok Allowed
  pub unnamed_named : access (base ++ MO a ++ EX p (all_unnamed ∷ [])) (RT a) all_unnamed a p ≡ Ok Allowed
  pub unnamed_not_named : access (base ++ MO a ++ EX p (b ∷ [])) (RT a) all_unnamed a p ≡ Ok NotExported
  pub unnamed_first_entry : access (base ++ MO a ++ EX p (b ∷ []) ++ EX p []) (RT a) all_unnamed a p ≡ Ok NotExported
  pub unnamed_opened : reflection (base ++ MO a ++ OP p []) (RT a) all_unnamed a p ≡ Ok Allowed
  pub unnamed_exported : reflection (base ++ MO a ++ EX p []) (RT a) all_unnamed a p ≡ Ok NotOpened
  -- "an unresolved target is denied", with an override too, and an absent one
  pub unnamed_unresolved : access (base ++ MO a ++ EX p []) [] all_unnamed a p ≡ Ok NotExported
  pub unnamed_unresolved_override : access (base ++ MO a ++ EX p []) (AE a p all_unnamed) all_unnamed a p ≡ Ok NotExported
  pub unnamed_unresolved_open : reflection (base ++ MO a ++ OP p []) (AO a p all_unnamed) all_unnamed a p ≡ Ok NotOpened
  pub unnamed_absent : access base [] all_unnamed a p ≡ Ok NotExported
  -- "nothing is exported by the unnamed module"; an override allows where it is read
  pub at_unnamed_override : access (beside []) (RT a ++ AR a all_unnamed ++ AE all_unnamed p a) a all_unnamed p ≡ Ok Allowed
  -- ---- refusals
  -- the numbers, and what is returned with each
  pub numbers : map number_of errors ≡ 1 ∷ 2 ∷ 3 ∷ 4 ∷ 5 ∷ 6 ∷ 7 ∷ 8 ∷ 9 ∷ 10 ∷ []
  pub returned : map particulars_of errors ≡ (2 ∷ 11 ∷ []) ∷ (12 ∷ []) ∷ (13 ∷ []) ∷ (14 ∷ []) ∷ (1 ∷ 15 ∷ 16 ∷ []) ∷ [] ∷ (17 ∷ 18 ∷ 19 ∷ 20 ∷ []) ∷ (21 ∷ []) ∷ [] ∷ [] ∷ []
  pub inputs : map input_number (Set ∷ Request ∷ Packages ∷ []) ≡ 0 ∷ 1 ∷ 2 ∷ []
  -- 1: "which of the three, offset of its mark": the set, the set before the request, the request; of the package records below
  pub set_offset : outcome (base ++ MO a ++ RT a) [] ≡ Err (Malformed Set 28)
  pub set_cut : outcome (base ++ (77 ∷ [])) [] ≡ Err (Malformed Set 18)
  pub set_before_request : outcome (base ++ MO a ++ RT a) (MO a) ≡ Err (Malformed Set 28)
  pub request_offset : outcome base (RT java_base ++ MO a) ≡ Err (Malformed Request 14)
  pub request_cut : outcome base (RT java_base ++ (82 ∷ [])) ≡ Err (Malformed Request 14)
  pub request_before_absent : outcome (MO a) (RT b ++ MO a) ≡ Err (Malformed Request 6)
  -- "Questions take the set and request too and end only with 1 to 3": not with the 6 of resolution
  pub question_refused : access base (RT java_base ++ MO a) a a p ≡ Err (Malformed Request 14)
  pub question_answered : access (MO a) [] a a p ≡ Ok Allowed
  -- 3: "module name seen before in the set, or ALL-UNNAMED"
  pub repeated : outcome (base ++ MO a ++ MO a) [] ≡ Err (Repeated 28)
  pub repeated_unnamed : outcome (base ++ MO all_unnamed) [] ≡ Err (Repeated 18)
  -- "set records front to back, at each 1, 2, 3"
  pub front_to_back : outcome (base ++ base ++ RT a) [] ≡ Err (Repeated 18)
  -- "The name ALL-UNNAMED is malformed here"; "A set starts with MO or is empty"; "MC: main class, at most one for a module"; "LM ..
  -- at most one record"
  pub requires_unnamed : outcome (base ++ RQ all_unnamed) [] ≡ Err (Malformed Set 18)
  pub starts_with : outcome (RQ a ++ base) [] ≡ Err (Malformed Set 0)
  pub main_twice : outcome (base ++ MC p ++ MC p) [] ≡ Err (Malformed Set 24)
  pub main_of_each : outcome (base ++ MC p ++ MO a ++ MC p) [] ≡ Ok tt
  pub limit_twice : outcome base (LM [] ++ LM []) ≡ Err (Malformed Request 6)
  -- "a body used up exactly"; "one length byte (1 to 255), then bytes 0x21 to 0x7E"; "automatic (1 byte, 0 or 1)"
  pub body_left : outcome (base ++ marked 80 75 (named p ++ named p)) [] ≡ Err (Malformed Set 18)
  pub body_short : outcome (base ++ marked 80 75 (2 ∷ p)) [] ≡ Err (Malformed Set 18)
  pub body_past_end : outcome (base ++ (80 ∷ 75 ∷ 0 ∷ 3 ∷ named p)) [] ≡ Err (Malformed Set 18)
  pub body_of_256 : outcome (base ++ (80 ∷ 75 ∷ 1 ∷ 0 ∷ 255 ∷ replicate 255 97)) [] ≡ Ok tt
  pub name_empty : outcome (base ++ PK []) [] ≡ Err (Malformed Set 18)
  pub name_bytes_lem : outcome (base ++ PK (0x21 ∷ 0x7E ∷ [])) [] ≡ Ok tt
  pub name_low : outcome (base ++ PK (0x20 ∷ [])) [] ≡ Err (Malformed Set 18)
  pub name_high : outcome (base ++ PK (0x7F ∷ [])) [] ≡ Err (Malformed Set 18)
  pub automatic_byte : outcome (base ++ module_with 0 2 a) [] ≡ Err (Malformed Set 18)
  -- "A version is the same, and length 0 means none"; "A list is a two-byte count, then names"
  pub version_given : outcome (base ++ marked 77 79 (0 ∷ 0 ∷ 0 ∷ (named a ++ named b))) [] ≡ Ok tt
  pub version_missing : outcome (base ++ marked 77 79 (0 ∷ 0 ∷ 0 ∷ named a)) [] ≡ Err (Malformed Set 18)
  pub list_count : outcome (base ++ marked 69 88 (named p ++ (0 ∷ 2 ∷ named a))) [] ≡ Err (Malformed Set 18)
  -- ---- a jar
  -- the name: what follows the last separator, without ".jar" and version, one dot for each run, none at the ends
  pub jar_name_lem : derived_name jar_name ≡ jar_module
  -- the last separator, one ".jar", letters of both cases and digits
  pub jar_name_folders : derived_name (120 ∷ 47 ∷ 121 ∷ 47 ∷ 97 ∷ []) ≡ a
  pub jar_name_ending : derived_name (97 ∷ 46 ∷ 106 ∷ 97 ∷ 114 ∷ 46 ∷ 106 ∷ 97 ∷ 114 ∷ []) ≡ 97 ∷ 46 ∷ 106 ∷ 97 ∷ 114 ∷ []
  pub jar_name_letters : derived_name (65 ∷ 49 ∷ 95 ∷ 98 ∷ []) ≡ 65 ∷ 49 ∷ 46 ∷ 98 ∷ []
  -- the whole records, "each group in byte order without repeats"; the byte past them stays
  pub jar : JarRead jar_name false [] (PK q ++ PK p ++ PK q) (replicate 74 9) (jar_records ++ (9 ∷ [])) (Ok 73)
  -- "A manifest name replaces all that"
  pub jar_manifest : JarRead jar_name true b [] (replicate 28 9) (MO_automatic b ++ requires_with 0x80 0 java_base ++ (9 ∷ [])) (Ok 27)
  -- 4: the bytes needed, and the output as it was
  pub jar_short : JarRead jar_name false [] (PK q ++ PK p ++ PK q) (replicate 72 9) (replicate 72 9) (Err (OutputTooShort 73))
  -- "package records (1), then 9, 10, 4": 1 with its offset before 9, 9 and 10 before 4
  pub jar_offset : JarRead only_jar false [] (PK q ++ MO a) (9 ∷ []) (9 ∷ []) (Err (Malformed Packages 6))
  pub jar_nothing_left : JarRead only_jar false [] [] (9 ∷ []) (9 ∷ []) (Err InvalidAutomaticModuleName)
  pub jar_bad_name : JarRead jar_name true (49 ∷ []) [] (9 ∷ []) (9 ∷ []) (Err InvalidModuleName)
  -- ---- places (U2)
  -- a name may stand again in another place, and not in the same
  pub again : check_set (MO a ++ PL ++ MO b ++ PL ++ MO a) ≡ accepted (0 ∷ 14 ∷ 28 ∷ []) 38
  pub twice : check_set (MO a ++ PL ++ MO a ++ MO a) ≡ Err (Repeated 24)
  -- eight places, the first with its PL or without; a ninth is refused at its PL
  pub eight : check_set (PL ++ PL7) ≡ accepted [] 32
  pub ninth : check_set (PL ++ PL ++ PL7) ≡ Err (TooLarge 32)
  pub eight_bare : check_set (MO a ++ PL7) ≡ accepted (0 ∷ []) 38
  pub ninth_bare : check_set (MO a ++ PL ++ PL7) ≡ Err (TooLarge 38)
  -- behind PL stands MO, PL or the end, and PL has no body
  pub stray : check_set (PL ++ RQ a) ≡ Err (Malformed Set 4)
  pub stray_behind : check_set (MO a ++ PL ++ RQ a) ≡ Err (Malformed Set 14)
  pub filled : check_set (marked 80 76 (0 ∷ [])) ≡ Err (Malformed Set 0)
  -- PL belongs to no block; of each name the first is visible
  pub parts : places (MO a ++ RQ b ++ PL ++ MO b ++ PL ++ MO a) ≡ ((MO a ++ RQ b) ∷ []) ∷ (MO b ∷ []) ∷ (MO a ∷ []) ∷ []
  pub seen : visible_blocks (MO a ++ RQ b ++ PL ++ MO b ++ PL ++ MO a) ≡ (MO a ++ RQ b) ∷ MO b ∷ []
  -- a PL in front begins the first place, and a place may be empty
  pub bare : places (PL ++ MO a ++ PL) ≡ (MO a ∷ []) ∷ [] ∷ []
  pub none : places [] ≡ []
  -- places that hide one another
  pub hiding : PlaceCases
