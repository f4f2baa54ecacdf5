use Rattle.std.proofs.Common.{length, subst, take, sym, string_bytes}
use Rattle.std.proofs.lemmas.Iterator.{YieldsList-from_chars}
use Rattle.std.proofs.lemmas.Iterator.Consumers.{YieldsList-turn, YieldsList-end}
use Rattle.std.proofs.lemmas.List.{length_push}
use Rattle.std.specs.List.{flat_map}
use Rattle.std.specs.Str.{chars}
use Rattle.pg_script_diagram.specs.Escaping.{GrowsBy, escaped_char}
use Rattle.pg_script_diagram.proofs.Adds.{adds_each, adds_whole}
use Rattle.pg_script_diagram.proofs.escape.add_escaped.Goals as goal

pub loop-character-preserved : goal.loop-character-preserved
loop-character-preserved c =
    let t = YieldsList-turn (YieldsList-from_chars c.args.text.now c.utf8.text (cc)) c.loop-character.yielded _ c.loop-character.yielded_by _ _ c.in-Some.character c.in-Some.is c.next.ensures.steps in
    let n = length_push c.loop-character.yielded c.in-Some.character in
    let f = adds_each escaped_char (chars c.args.text.now) (length c.loop-character.yielded) c.in-Some.character _ _ _ t.0 t.1 c.loop-character.invariant c.in_ok-add_escaped_char.ensures in
    subst (λ k. GrowsBy (flat_map escaped_char (take k (chars c.args.text.now))) (string_bytes c.args.out.now) (string_bytes c.add_escaped_char.new.out)) (sym n) f

pub returns : goal.returns
returns c =
    let t = YieldsList-end (YieldsList-from_chars c.args.text.now c.utf8.text (cc)) c.loop-character.yielded _ c.loop-character.yielded_by _ _ c.in-None.is c.next.ensures.steps in
    adds_whole escaped_char (chars c.args.text.now) (length c.loop-character.yielded) _ _ t.1 c.loop-character.invariant
