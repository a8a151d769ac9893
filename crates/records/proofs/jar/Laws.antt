-- What each return of the jar reader shows.
use Prim.Native.Nat.{ℕ, ◌+◌, ◌*◌, ◌^◌, ◌≤◌, ◌<◌}
use mathlib.Core.Path.{◌≡◌, refl, sym, ◌∙◌, ap}
use mathlib.Core.List.{List, map}
use mathlib.Core.Bool.{Bool, true, false}
use native.Mathlib.Omega.{arith}
use lib.ListN.{length, take}
use borrow.Author.Tests.{lt-ltb, le-ltb}
use Rattle.records.specs.Automatic.{is_module_name, derived_name, derived, validated, text_of, derived_text, Named, Derived, then_text}
use Rattle.records.specs.Request.{check_records}
use Rattle.records.specs.Order.{name_in, PackagesOrdered}
use Rattle.records.specs.Output.{written, packages_size, automatic_records}
use Rattle.records.specs.Jar.{name_for, named_for, records_for, fitted, then_name, then_packages, jar_answer, output_after, JarRead, NamedRead, Ordered, Fitted}
use Rattle.records.specs.declared.error.Input.TheVariants.{Packages}
use Rattle.records.specs.declared.error.ModuleError.{ModuleError}
use Rattle.records.specs.declared.error.ModuleError.TheVariants.{TooLarge, OutputTooShort, InvalidModuleName}
use Rattle.records.specs.Jar.{Written}
use Rattle.records.proofs.automatic.JarNames.{derived-name-length, text-take}
use Rattle.records.proofs.automatic.Parts.{module_name-short}
use Rattle.records.proofs.output.Automatic.{records-size}
use Rattle.records.proofs.request.Laws.{good-short}
use Rattle.records.specs.declared.automatic.Text.{Text}
use Rattle.records.proofs.Logic.{clash}
use Rattle.std.specs.Prelude.{Ok, Err}

-- ---- the name and the package records are good

-- the table that is put in order
pub table-ordered : (s t₀ t : List ℕ) (count : ℕ) → PackagesOrdered s t₀ t count → Ordered s t count
table-ordered s t₀ t count p = record { names_are = p.names_are; small = p.small; within = p.within; most = omega (arith, p.most) }

module _ (name s t : List ℕ) (count : ℕ) (p : Ordered s t count) where
  module _ (z : ℕ) (ez : z ≡ packages_size (map (name_in s) (take count t))) where
    needed : 26 + length name + z ≡ length (automatic_records name (map (name_in s) (take count t)))
    needed = omega (arith, ez, records-size name (map (name_in s) (take count t)))

    long : 26 + length name + z ≡ length (records_for name s)
    unfolding records_for
    long = needed ∙ rw p.names_are

    pub fitted-room : (o : List ℕ) → 26 + length name + z ≤ length o → length (automatic_records name (map (name_in s) (take count t))) ≤ length o
    fitted-room o l = omega (arith, needed)

    pub fitted_short : (o : List ℕ) → length o < 26 + length name + z → Fitted name s o o (Err (OutputTooShort (26 + length name + z)))
    unfolding fitted output_after
    fitted_short o l = record { answer = rw long (sym (rw (lt-ltb (length o) (length (records_for name s)) (rw long at l)))); output = refl }

    pub fitted-bytes : (o o₁ : List ℕ) → 26 + length name + z ≤ length o → o₁ ≡ written o 0 (automatic_records name (map (name_in s) (take count t))) → Fitted name s o o₁ (Ok (26 + length name + z))
    unfolding fitted output_after records_for
    fitted-bytes o o₁ l e = record {
      answer = rw long (sym (rw (le-ltb (length o) (length (records_for name s)) (rw long at l))));
      output = e ∙ rw p.names_are;
    }

pub size_fits : (n z count : ℕ) → n ≤ 255 → z ≤ count * 196624 → count ≤ 16384 → 26 + n + z < 2 ^ 64
size_fits n z count l m c = omega arith

pub ruleset fitted_laws = (fitted-room, fitted_short, fitted-bytes, size_fits)

-- ---- a name that is given, and one that is derived

module _ (m s o : List ℕ) (v : Bool) (ev : v ≡ is_module_name m) where
  pub given-bad : v ≡ false → NamedRead (validated m) m s o o (Err InvalidModuleName)
  unfolding validated then_name output_after
  given-bad f = record { answer = sym (rw (← ev, f)); output = refl }

  pub given-short : v ≡ true → length m ≤ 255
  given-short t = module_name-short m (sym ev ∙ t)

  pub given-read : v ≡ true → (o₁ : List ℕ) (r : Written) → Fitted m s o o₁ r → NamedRead (validated m) m s o o₁ r
  unfolding validated then_name
  given-read t o₁ r f = record { answer = f.answer ∙ sym (rw (← ev, t)); output = f.output }

pub ruleset given_laws = (given-bad, given-short, given-read)

-- what a name's answer and its text were told from
then-err : (d : Named) (t : Text) (e : ModuleError) → Err e ≡ then_text d t → d ≡ Err e
unfolding then_text
then-err (Ok u) t e h = clash (cc)
then-err (Err x) t e h = cc

record Told (d : Named) (t x : Text) : Type 0 where
  valid : d ≡ Ok tt
  text : x ≡ t

then_ok : (d : Named) (t x : Text) → Ok x ≡ then_text d t → Told d t x
unfolding then_text
then_ok (Ok u) t x h = record { valid = refl; text = cc }
then_ok (Err y) t x h = clash (cc)

module _ (jar s o : List ℕ) (l : length jar ≤ 255) where
  told_by : (d : Derived) → d ≡ derived_text jar → d ≡ then_text (derived jar) (text_of (derived_name jar))
  unfolding derived_text
  told_by d e = e ∙ rw (le-ltb 255 (length jar) l)

  pub derived-bad : (e : ModuleError) (r : Written) → Err e ≡ derived_text jar → r ≡ Err e → NamedRead (derived jar) (derived_name jar) s o o r
  unfolding then_name output_after
  derived-bad e r h er =
      let d : derived jar ≡ Err e = then-err (derived jar) (text_of (derived_name jar)) e (told_by (Err e) h) in
      record { answer = er ∙ sym (rw d); output = rw er }

  module _ (t : Text) (h : Ok t ≡ derived_text jar) (n : List ℕ) (en : n ≡ take t.len t.bytes) where
    told : Told (derived jar) (text_of (derived_name jar)) t
    told = then_ok (derived jar) (text_of (derived_name jar)) t (told_by (Ok t) h)

    named : n ≡ derived_name jar
    named = en ∙ ap (λ (x : Text). take x.len x.bytes) told.text ∙ text-take (derived_name jar)

    pub derived-short : length n ≤ 255
    derived-short = rw named (omega (arith, derived-name-length jar, l))

    pub derived-read : (o₁ : List ℕ) (r : Written) → Fitted n s o o₁ r → NamedRead (derived jar) (derived_name jar) s o o₁ r
    unfolding then_name
    derived-read o₁ r f =
        let q : Fitted (derived_name jar) s o o₁ r = rw named at f in
        record { answer = q.answer ∙ sym (rw told.valid); output = q.output }

pub ruleset derived_laws = (derived-bad, derived-short, derived-read)

-- ---- the whole

module _ (jar : List ℕ) (given : Bool) (m s o : List ℕ) where
  pub jar_long : 255 < length jar → JarRead jar given m s o o (Err (TooLarge 0))
  unfolding jar_answer output_after
  jar_long l = record { answer = sym (rw (lt-ltb 255 (length jar) l)); output = refl }

  module _ (l : length jar ≤ 255) where
    pub jar_packages : (e : ModuleError) (r : Written) → Err e ≡ check_records Packages s → r ≡ Err e → JarRead jar given m s o o r
    unfolding jar_answer output_after then_packages
    jar_packages e r h er = record { answer = er ∙ sym (rw (le-ltb 255 (length jar) l, ← h)); output = rw er }

    module _ (u : Unit {0}) (g : Ok u ≡ check_records Packages s) where
      pub jar_short : length s ≤ 65535
      jar_short = good-short Packages s (sym g)

      then_is : jar_answer jar given m s (length o) ≡ then_name (named_for given jar m) (fitted (length o) (records_for (name_for given jar m) s))
      unfolding jar_answer then_packages
      then_is = rw (le-ltb 255 (length jar) l, ← g)

      pub jar_given : (o₁ : List ℕ) (r : Written) → given ≡ true → NamedRead (validated m) m s o o₁ r → JarRead jar given m s o o₁ r
      unfolding named_for name_for
      jar_given o₁ r e f = record { answer = f.answer ∙ sym (then_is ∙ rw e); output = f.output ∙ rw e }

      pub jar_derived : (o₁ : List ℕ) (r : Written) → given ≡ false → NamedRead (derived jar) (derived_name jar) s o o₁ r → JarRead jar given m s o o₁ r
      unfolding named_for name_for
      jar_derived o₁ r e f = record { answer = f.answer ∙ sym (then_is ∙ rw e); output = f.output ∙ rw e }

pub ruleset jar_laws = (jar_long, jar_packages, jar_short, jar_given, jar_derived)

pub ruleset write_in_order_laws = (table-ordered)
