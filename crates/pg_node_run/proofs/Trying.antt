-- What a whole turn has tried, phase by phase.
use Rattle.std.proofs.Common.{◌≡◌, ◌<◌, ◌+◌, ℕ, List, [], ◌∷◌, ◌++◌, refl, sym, subst, arith, inl, inr}
use Rattle.std.specs.Prelude.{Bool, false, None, Result, Ok, IfErr}
use Rattle.std.proofs.lemmas.Bool.Decides.{eqb_tells}
use Rattle.pg_node.specs.PgGroup.declared.table.GroupTable.{Ghosts}
use Rattle.pg_node.specs.PgNodeState.declared.state.fault.NodeFault.{NodeFault}
use Rattle.pg_node.specs.Bytes.{next_packet}
use Rattle.pg_node.specs.Nodes.{links_of}
use Rattle.pg_node_run.specs.declared.linked.LinkedNode.{LinkedNode}
use Rattle.pg_node_run.specs.declared.notices.Notice.{Notice}
use Rattle.pg_node_run.specs.declared.port.Port.{Port}
use Rattle.pg_node_run.specs.declared.run.NodeRun.{NodeRun}
use Rattle.pg_node_run.specs.declared.run.Turned.{Turned}
use Rattle.pg_node_run.specs.declared.run.Turned.TheVariants.{Whole, Short, Stopped}
use Rattle.pg_node_run.specs.Runs.{TurnMade, TurnsMade, shorts, wholes}
use Rattle.pg_node_run.specs.Events.{TookNext, IsFault, told_of_peer}
use Rattle.pg_node_run.specs.Follows.{Follows, node_of}
use Rattle.pg_node_run.specs.Tries.{ComesTo, HasTried, HasTriedAll, IsNoWant}
use Rattle.pg_node_run.specs.Turns.{GoesOnSeeing, ServesSeeing}
use Rattle.pg_node_run.proofs.Following.{follows_itself, follows_on}

module _ {T L I : Type 0} {g : Ghosts T} (accepts : L → List ℕ → L → Type 0) (gives : I → List ℕ → I → Type 0)
    (link_rests : (a : L) → accepts a [] a) (inlet_rests : (a : I) → gives a [] a)
    (link_composes : (a b c : L) (xs ys : List ℕ) → accepts a xs b → accepts b ys c → accepts a (xs ++ ys) c)
    (inlet_composes : (a b c : I) (xs ys : List ℕ) → gives a xs b → gives b ys c → gives a (xs ++ ys) c) where
  pub comes_on : (a b c : LinkedNode T L I g) → ComesTo accepts gives a b → ComesTo accepts gives b c → ComesTo accepts gives a c
  comes_on a b c h k = (h.0 ++ k.0, follows_on accepts gives link_composes inlet_composes h.0 k.0 a b c h.1 k.1)

  pub going : (losses : List Notice) (a b : LinkedNode T L I g) → GoesOnSeeing accepts gives losses a b → ComesTo accepts gives a b
  going losses a b goes = (goes.acts, goes.follows)

  pub serving : (losses : List Notice) (a b : LinkedNode T L I g) (x y : List Port) → ServesSeeing accepts gives losses a x b y → ComesTo accepts gives a b
  serving losses a b x y serves = (serves.acts, serves.follows)

  -- one peer was tried
  pub tried_one : (peer : ℕ) (a m b : LinkedNode T L I g) (taken : Result Bool NodeFault) → Follows accepts gives [] a m → TookNext accepts gives peer taken m b
      → (taken ≡ Ok false → next_packet (links_of (node_of m) peer) ≡ Ok None) → IfErr taken (IsFault (told_of_peer (node_of m) peer)) → IfErr taken IsNoWant → HasTried accepts gives peer a b
  tried_one peer a m b taken pulled took none fault no_want = record {
    before = m;
    first = ([], pulled);
    taken = taken;
    after = b;
    took = took;
    none = none;
    fault = fault;
    no_want = no_want;
    rest = ([], follows_itself accepts gives link_rests inlet_rests b);
  }

  -- before it something happened, and behind it
  pub tried_between : (peer : ℕ) (a b c d : LinkedNode T L I g) → ComesTo accepts gives a b → HasTried accepts gives peer b c → ComesTo accepts gives c d → HasTried accepts gives peer a d
  tried_between peer a b c d h tried k = record {
    before = tried.before;
    first = comes_on a b tried.before h tried.first;
    taken = tried.taken;
    after = tried.after;
    took = tried.took;
    none = tried.none;
    fault = tried.fault;
    no_want = tried.no_want;
    rest = comes_on tried.after c d tried.rest k;
  }

  pub stays : (a : LinkedNode T L I g) → ComesTo accepts gives a a
  stays a = ([], follows_itself accepts gives link_rests inlet_rests a)

  -- all peers below a place were, and then that one
  pub tried_more : (place : ℕ) (a b c : LinkedNode T L I g) → ComesTo accepts gives a b → ComesTo accepts gives b c
      → ((peer : ℕ) → peer < place → HasTried accepts gives peer a b) → HasTried accepts gives place b c
      → (peer : ℕ) → peer < place + 1 → HasTried accepts gives peer a c
  tried_more place a b c h k before here peer low = elim (eqb_tells peer place) [
    | inl t ↦ subst (λ p. HasTried accepts gives p a c) (sym t.1) (tried_between place a b c c h here (stays c))
    | inr f ↦ tried_between peer a a b c (stays a) (before peer (omega (arith, f.1, low))) k
  ]

  -- and what follows changes nothing of it
  pub tried_still : (a b c : LinkedNode T L I g) → HasTriedAll accepts gives a b → ComesTo accepts gives b c → HasTriedAll accepts gives a c
  tried_still a b c all k peer low = tried_between peer a a b c (stays a) (all peer low) k

-- ---- turn by turn

pub wholes_push : (turned : List Turned) (t : Turned) → wholes (turned ++ t ∷ []) ≡ wholes turned + wholes (t ∷ [])
wholes_push [] t = omega (arith)
wholes_push (Whole ∷ others) t = let e = wholes_push others t in omega (arith, e)
wholes_push (Short ∷ others) t = wholes_push others t
wholes_push (Stopped ∷ others) t = wholes_push others t

pub shorts_push : (turned : List Turned) (t : Turned) → shorts (turned ++ t ∷ []) ≡ shorts turned + shorts (t ∷ [])
shorts_push [] t = omega (arith)
shorts_push (Whole ∷ others) t = shorts_push others t
shorts_push (Short ∷ others) t = let e = shorts_push others t in omega (arith, e)
shorts_push (Stopped ∷ others) t = shorts_push others t

module _ {T L I K : Type 0} {g : Ghosts T} (accepts : L → List ℕ → L → Type 0) (gives : I → List ℕ → I → Type 0) (link_moves : L → ℕ → ℕ → Type 0)
    (inlet_moves : I → ℕ → ℕ → Type 0) where
  pub turns_push : (turned : List Turned) (t : Turned) (a b c : NodeRun T L I K g) → TurnsMade accepts gives link_moves inlet_moves turned a b → TurnMade accepts gives link_moves inlet_moves t b c
      → TurnsMade accepts gives link_moves inlet_moves (turned ++ t ∷ []) a c
  turns_push [] t a b c same made = (c, subst (λ (x : NodeRun T L I K g). TurnMade accepts gives link_moves inlet_moves t x c) same made, refl)
  turns_push (first ∷ others) t a b c (m, one, rest) made = (m, one, turns_push others t m b c rest made)
