-- What each return of the readers shows.
use Prim.Native.Nat.{ℕ}
use mathlib.Core.Path.{◌≡◌, ◌∙◌}
use mathlib.Core.List.{List, []}
use mathlib.Core.Bool.{Bool, true, false}
use denote.Ref.{Bor}
use Rattle.std.specs.Prelude.{Option, is_some, unwrap_or, option_copied}
use Rattle.std.specs.Bool.{then_some}
use Rattle.records.specs.Jar.{Written, JarRead, jar_answer, named_for, name_for}
use Rattle.class_reader.specs.ClassFile.{ClassRead}
use Rattle.host.specs.Host.{written_reply}
use Rattle.host.specs.Reader.{ClassTold, JarTold}
use Rattle.host.specs.Reply.{Told}

pub class-told : (f before after particulars : List ℕ) (w : Written) (r : ℕ) → ClassRead f before after w
    → Told (written_reply w) particulars r → ClassTold f before after particulars r
class-told f before after particulars w r c t = record { reply = rw (← c.answer) t; output = c.output ∙ rw c.answer }

-- a manifest that is not given does not matter
as_given : (jar : List ℕ) (given : Bool) (manifest : Bor (List ℕ)) (packages before after : List ℕ) (w : Written)
    → JarRead jar (is_some (then_some given manifest)) (unwrap_or (option_copied (then_some given manifest)) []) packages before after w
    → JarRead jar given manifest.now packages before after w
unfolding jar_answer named_for name_for
as_given jar true manifest packages before after w c = c
as_given jar false manifest packages before after w c = record { answer = c.answer; output = c.output }

pub jar_told : (jar : List ℕ) (given : Bool) (manifest : Bor (List ℕ)) (name : Option (Bor (List ℕ))) (packages before after particulars : List ℕ) (w : Written) (r : ℕ)
    → name ≡ then_some given manifest → JarRead jar (is_some name) (unwrap_or (option_copied name) []) packages before after w
    → Told (written_reply w) particulars r → JarTold jar given manifest.now packages before after particulars r
jar_told jar given manifest name packages before after particulars w r e c t =
    let q : JarRead jar given manifest.now packages before after w = as_given jar given manifest packages before after w (rw e at c) in
    record { reply = rw (← q.answer) t; output = q.output ∙ rw q.answer }

pub ruleset class_laws = (class-told)
