use Rattle.std.proofs.Common.{rules, arith, ◌≡◌, ◌+◌, ◌<◌, ◌++◌, length, length-append}
use Rattle.std.proofs.Common.{take, vec_len, inr, refl, ap, ◌∙◌, sym, subst}
use Rattle.std.proofs.KnownBytes.{Consumes-trans}
use Rattle.std.specs.Io.KnownBytes.{Consumes}
use Rattle.pg_program.specs.Inputs.{GaveBytes}
use Rattle.pg_program.proofs.Inputs.{gave_more}
use Rattle.pg_program.proofs.input.read_input.Goals as goal

-- the last piece makes it too long
pub returns-then-count-len-clause-fault : goal.returns-then-count-len-clause-fault
returns-then-count-len-clause-fault g c =
    let input = c.loop-count.input.items in
    let piece = take c.in-Ok.count c.read_some.new.piece in
    let count : c.in-Ok.count ≡ length piece = (c.in-Ok.ensures.bound).1 in
    let some : 0 < length piece = let none = c.if-count-eq0.false in grind (arith) in
    let long : 16777216 < length (input ++ piece) = omega (arith, length-append input piece, c.if-count-len.true, c.len.ensures, c.loop-count.invariant.size, count) in (
      refl,
      (
        input ++ piece,
        record {
          before = c.read_some.new.self;
          gave = gave_more g.R.Source.gives c.args.reader.now c.loop-count.reader c.read_some.new.self input piece c.loop-count.invariant.gave c.in-Ok.ensures.ok some;
          over = inr (refl, long);
          consumed = Consumes-trans (g.R.Source.remaining c.args.reader.now) (g.R.Source.remaining c.loop-count.reader) (g.R.Source.remaining c.read_some.new.self) input piece c.loop-count.invariant.consumed c.in-Ok.ensures.bytes.0;
        },
        long,
      ),
    )

pub loop-count-preserved : goal.loop-count-preserved
loop-count-preserved g c =
    let input = c.loop-count.input.items in
    let piece = take c.in-Ok.count c.read_some.new.piece in
    let count : c.in-Ok.count ≡ length piece = (c.in-Ok.ensures.bound).1 in
    let some : 0 < length piece = let none = c.if-count-eq0.false in grind (arith) in
    let more : c.extend_from_slice.new.self.items ≡ input ++ piece = search rules in
    let size = ap length more ∙ length-append input piece in
    let len : vec_len c.extend_from_slice.new.self ≡ vec_len c.loop-count.input + length piece = search rules in
    record {
      gave = subst (GaveBytes g.R.Source.gives c.args.reader.now c.read_some.new.self) (sym more) (gave_more g.R.Source.gives c.args.reader.now c.loop-count.reader c.read_some.new.self input piece c.loop-count.invariant.gave c.in-Ok.ensures.ok some);
      consumed = subst (Consumes (g.R.Source.remaining c.args.reader.now) (g.R.Source.remaining c.read_some.new.self)) (sym more) (Consumes-trans (g.R.Source.remaining c.args.reader.now) (g.R.Source.remaining c.loop-count.reader) (g.R.Source.remaining c.read_some.new.self) input piece c.loop-count.invariant.consumed c.in-Ok.ensures.bytes.0);
      few = omega (arith, size, c.loop-count.invariant.few, c.if-count-len.false, c.len.ensures, c.loop-count.invariant.size, count);
      size = omega (arith, size, len, c.loop-count.invariant.size);
    }
