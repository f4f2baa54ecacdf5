use Rattle.std.proofs.Common.{◌≡◌, ◌<◌, ◌∙◌, ℕ, List, true, false, length, refl, sym, ap, arith, subst}
use Rattle.std.proofs.lemmas.List.{length-map}
use Rattle.pg_world_packets.specs.Losing.{is_told_first, lost_of, ShowsLosing}
use Rattle.pg_world_config.specs.Seen.{seen_of}
use Rattle.pg_world_packets.specs.Views.{ways_of}
use Rattle.pg_world_packets.specs.Worlds.{view_of}
use Rattle.pg_world_packets.proofs.Dropped.{cut_there, cut_others, cut_whole}
use Rattle.pg_world_packets.proofs.Dropped.{few_or_many, lost_before, too_many, none_refuses, lost_now}
use Rattle.pg_world_packets.proofs.world.FrameNodes.lose.Goals as goal

pub returns-then-keep-len-clause-losing : goal.returns-then-keep-len-clause-losing
returns-then-keep-len-clause-losing g c = λ config u shows.
    let view = view_of c.args.self.now in
    let lost = lost_of c.args.self.now in
    let count = c.args.self.now.whole.others c.args.node c.requires.place in
    let other = c.if-keep-len.true in (
      few_or_many config view view u c.args.node c.args.keep.now lost lost shows c.requires.place count
          (λ e. other (omega (arith, e, c.len.ensures, c.args.self.now.nodes.ok, length-map c.args.self.now.nodes.items seen_of))),
      shows,
    )

pub returns-then-has-clause-losing : goal.returns-then-has-clause-losing
returns-then-has-clause-losing g c = λ config u shows.
    let view = view_of c.args.self.now in
    let lost = lost_of c.args.self.now in
    let count = c.args.self.now.whole.others c.args.node c.requires.place in (
      lost_before config view view u c.args.node c.args.keep.now lost lost shows c.requires.place count (c.can_keep.ensures.0 c.if-not-can_keep.false) (sym c.has.ensures ∙ c.if-has.true),
      shows,
    )

pub returns-then-not-can_keep-clause-losing : goal.returns-then-not-can_keep-clause-losing
returns-then-not-can_keep-clause-losing g c = λ config u shows.
    let view = view_of c.args.self.now in
    let lost = lost_of c.args.self.now in
    let count = c.args.self.now.whole.others c.args.node c.requires.place in (
      too_many config view view u c.args.node c.args.keep.now lost lost shows c.requires.place count
          (omega (arith, c.if-keep-len.false, c.len.ensures, c.args.self.now.nodes.ok, length-map c.args.self.now.nodes.items seen_of))
          (λ can. let yes : false ≡ true = sym c.if-not-can_keep.true ∙ c.can_keep.ensures.1 can in absurd (cc)),
      shows,
    )

pub returns-in-Err-clause-losing : goal.returns-in-Err-clause-losing
returns-in-Err-clause-losing g c = λ config u shows.
    let view = view_of c.args.self.now in
    let lost = lost_of c.args.self.now in
    let count = c.args.self.now.whole.others c.args.node c.requires.place in
    let none = none_refuses config view view u c.args.node c.args.keep.now lost lost shows c.requires.place count (c.can_keep.ensures.0 c.if-not-can_keep.false) (sym c.has.ensures ∙ c.if-has.false) in
    (ap is_told_first none, subst (λ (l : List ℕ). ShowsLosing config view l u) (sym c.in-Err.ensures.err) shows)

pub invariant_of-self-2 : goal.invariant_of-self-2
invariant_of-self-2 g c =
    let nodes = c.args.self.now.nodes.items in
    let outs = c.args.self.now.outgoing.items in
    let whole = c.args.self.now.whole in
    let within : c.args.node < length outs = omega (arith, c.requires.place, whole.rows, length-map outs ways_of, length-map nodes seen_of) in
    record { whole = cut_whole nodes outs c.args.node c.index_mut-outgoing.result.now c.cut.new.self within c.index_mut-outgoing.ensures.value c.args.keep.now c.cut.ensures.len c.cut.ensures.cut whole }

pub returns-clause-losing : goal.returns-clause-losing
returns-clause-losing g c = λ config u shows.
    let nodes = c.args.self.now.nodes.items in
    let outs = c.args.self.now.outgoing.items in
    let whole = c.args.self.now.whole in
    let within : c.args.node < length outs = omega (arith, c.requires.place, whole.rows, length-map outs ways_of, length-map nodes seen_of) in
    let count = whole.others c.args.node c.requires.place in
    lost_now config (view_of c.args.self.now) _ u c.args.node c.args.keep.now (lost_of c.args.self.now) _ shows c.requires.place count
    (sym c.has.ensures ∙ c.if-has.false) (c.can_keep.ensures.0 c.if-not-can_keep.false) c.in-Ok.ensures.added refl _ c.note_formed.ensures
    (cut_there nodes outs c.args.node c.index_mut-outgoing.result.now c.cut.new.self within c.index_mut-outgoing.ensures.value c.args.keep.now c.cut.ensures.len c.cut.ensures.cut)
    (cut_others nodes outs c.args.node c.index_mut-outgoing.result.now c.cut.new.self within c.index_mut-outgoing.ensures.value c.args.keep.now c.cut.ensures.len c.cut.ensures.cut)
