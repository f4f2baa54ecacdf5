-- What a world of packets shows once one of its nodes is lost.
use Rattle.std.proofs.Common.{◌≡◌, ◌≢◌, ℕ, ◌+◌, ◌-◌, ◌<◌, Bool, false, true, map, take, length, get_or, List}
use Rattle.std.proofs.Common.{[], ◌∷◌, ◌++◌, Option, Some, None, Ok, refl, sym, ap, ◌∙◌, inl, inr, ◌⊎◌, arith, subst}
use Rattle.std.specs.Prelude.{slice_set}
use Rattle.std.proofs.lemmas.Bool.{cases_eq}
use Rattle.std.proofs.lemmas.List.{get_or-map, get_or-set_same, get_or-set_other, map-set, length-map, length-set}
use Rattle.pg_node_state.specs.PgGroup.declared.table.GroupTable.{Ghosts}
use Rattle.pg_node_state.specs.PgMessageTypes.declared.message.Message.{Message}
use Rattle.pg_node_state.specs.PgStep.Machines.Clocked.{Stamped}
use Rattle.pg_node_state.specs.PgStep.declared.refusal.Refusal.{Refusal}
use Rattle.pg_node_state.specs.PgStep.declared.refusal.Refusal.TheVariants.{NoSuchPlace, NodeLost}
use Rattle.pg_node_state.specs.PgStep.Config.{Config}
use Rattle.pg_node_state.specs.PgStep.LossLaws.{LosingFrameWorld}
use Rattle.pg_node_state.specs.declared.state.NodeState.{NodeState}
use Rattle.pg_world_packets.specs.declared.ways.Ways.{Ways}
use Rattle.pg_world_packets.specs.declared.step.Stepped.TheVariants.{Gone}
use Rattle.pg_node_state.specs.PgStep.Machines.Places.{is_pair}
use Rattle.pg_world_packets.specs.Losing.{keep_of, losing_of, loss_refusal, told_loss, ShowsLosing, LosingComesTo}
use Rattle.pg_world_account.specs.Histories.{account_formed}
use Rattle.pg_world_account.specs.Losses.{is_lost}
use Rattle.pg_world_config.specs.Seen.{seen_of}
use Rattle.pg_world_packets.specs.Views.{View, CanStay, IsWhole, ways_of, traffic_in}
use Rattle.pg_world_packets.specs.Worlds.{TimedFrameWorld}
use Rattle.pg_world_packets.proofs.Stopped.{count_refused, lost_refused, many_refused, unrefused, keeps_so}
use Rattle.pg_world_packets.proofs.Stopped.{packets_cut, shown_cut, loss_happens, seen_more}
use Rattle.pg_world_packets.proofs.Turning.{way_at}

-- ---- the ways from one node are short

module _ {T : Type 0} {g : Ghosts T} (nodes : List (NodeState T g)) (outs : List Ways) (i : ℕ) (out out2 : Ways) (within : i < length outs) (here : out ≡ get_or outs i out)
    (keep : List ℕ) (len : length (ways_of out2) ≡ length (ways_of out)) (cut : (k : ℕ) → get_or (ways_of out2) k [] ≡ take (get_or keep k 0) (get_or (ways_of out) k [])) where
  ways_here : get_or (map ways_of outs) i [] ≡ ways_of out
  ways_here = get_or-map ways_of outs i out [] within ∙ ap ways_of (sym here)

  inner : i < length (map ways_of outs)
  inner = omega (arith, within, length-map outs ways_of)

  row_here : get_or (map ways_of (slice_set outs i out2)) i [] ≡ ways_of out2
  row_here = ap (λ (ws : List (List (List (Stamped Message)))). get_or ws i []) (map-set ways_of outs i out2) ∙ get_or-set_same (map ways_of outs) i (ways_of out2) [] inner

  row_else : (x : ℕ) → x ≢ i → get_or (map ways_of (slice_set outs i out2)) x [] ≡ get_or (map ways_of outs) x []
  row_else x n = ap (λ (ws : List (List (List (Stamped Message)))). get_or ws x []) (map-set ways_of outs i out2) ∙ get_or-set_other (map ways_of outs) i x (ways_of out2) [] n

  pub cut_there : (k : ℕ) → way_at (traffic_in nodes (slice_set outs i out2)) i k ≡ take (get_or keep k 0) (way_at (traffic_in nodes outs) i k)
  cut_there k = ap (λ (row : List (List (Stamped Message))). get_or row k []) row_here ∙ (cut k ∙ ap (λ (row : List (List (Stamped Message))). take (get_or keep k 0) (get_or row k [])) (sym ways_here))

  pub cut_others : (x k : ℕ) → x ≢ i → way_at (traffic_in nodes (slice_set outs i out2)) x k ≡ way_at (traffic_in nodes outs) x k
  cut_others x k n = ap (λ (row : List (List (Stamped Message))). get_or row k []) (row_else x n)

  pub cut_whole : IsWhole (traffic_in nodes outs) → IsWhole (traffic_in nodes (slice_set outs i out2))
  cut_whole whole = record {
    rows = omega (arith, whole.rows, length-map (slice_set outs i out2) ways_of, length-set outs i out2, length-map outs ways_of);
    known = whole.known;
    others = λ j below. others j below (cases_eq j i);
  }
    where
      others : (j : ℕ) → j < length (map seen_of nodes) → (j ≡ i) ⊎ (j ≢ i) → length (get_or (map ways_of (slice_set outs i out2)) j []) + 1 ≡ length (map seen_of nodes)
      others j below (inl e) = subst (λ k. length (get_or (map ways_of (slice_set outs i out2)) k []) + 1 ≡ length (map seen_of nodes)) (sym e)
          (ap (λ (row : List (List (Stamped Message))). length row + 1) (row_here)
          ∙ (ap (λ n. n + 1) len ∙ (ap (λ (row : List (List (Stamped Message))). length row + 1) (sym ways_here) ∙ whole.others i (subst (λ k. k < length (map seen_of nodes)) e below))))
      others j below (inr n) = ap (λ (row : List (List (Stamped Message))). length row + 1) (row_else j n) ∙ whole.others j below

-- ---- what comes of a loss

module _ (config : Config) (old new : View) (u : LosingFrameWorld) (i : ℕ) (keep lost lost2 : List ℕ) (shows : ShowsLosing config old lost u) (within : i < length old.traffic.nodes)
    (count : length (get_or old.traffic.ways i []) + 1 ≡ length old.traffic.nodes) where
  below : i < length config
  below = omega (arith, within, shows.shows.traffic.nodes.size)

  count_here : length (get_or old.traffic.ways i []) + 1 ≡ length config
  count_here = count ∙ shows.shows.traffic.nodes.size

  told_here : (r : Option Refusal) → loss_refusal config (losing_of config shows.frames lost) i keep ≡ r → loss_refusal config u i keep ≡ r
  told_here r is = subst (λ (x : LosingFrameWorld). loss_refusal config x i keep ≡ r) (sym shows.is) is

  pub few_or_many : (length keep ≡ length old.traffic.nodes - 1 → ⊥) → loss_refusal config u i keep ≡ Some NoSuchPlace
  few_or_many other = told_here (Some NoSuchPlace) (count_refused config old shows.frames lost i keep shows.shows below (λ e. other (e ∙ ap (λ n. n - 1) (sym shows.shows.traffic.nodes.size))))

  pub too_many : length keep ≡ length old.traffic.nodes - 1 → (CanStay keep (get_or old.traffic.ways i []) → ⊥) → loss_refusal config u i keep ≡ Some NoSuchPlace
  too_many len none = told_here (Some NoSuchPlace) (many_refused config old shows.frames lost i keep shows.shows below count_here (omega (arith, len, count)) none)

  pub lost_before : CanStay keep (get_or old.traffic.ways i []) → is_lost lost i ≡ true → loss_refusal config u i keep ≡ Some NodeLost
  lost_before can gone = told_here (Some NodeLost) (lost_refused config old shows.frames lost i keep shows.shows below count_here can gone)

  pub none_refuses : CanStay keep (get_or old.traffic.ways i []) → is_lost lost i ≡ false → loss_refusal config u i keep ≡ None
  none_refuses can stays = told_here None (unrefused config old shows.frames lost i keep shows.shows below count_here can stays)

  pub lost_now : is_lost lost i ≡ false → CanStay keep (get_or old.traffic.ways i []) → lost2 ≡ lost ++ i ∷ [] → new.traffic.nodes ≡ old.traffic.nodes → (formed : Bool) → new.account ≡ account_formed formed old.account
      → ((k : ℕ) → way_at new.traffic i k ≡ take (get_or keep k 0) (way_at old.traffic i k)) → ((x k : ℕ) → x ≢ i → way_at new.traffic x k ≡ way_at old.traffic x k)
      → LosingComesTo config u (told_loss config u i keep) (Ok Gone) (ShowsLosing config new lost2)
  lost_now stays can more nodes formed account here others =
      subst (λ (x : LosingFrameWorld). LosingComesTo config x (told_loss config x i keep) (Ok Gone) (ShowsLosing config new lost2)) (sym shows.is) (
        refl,
        record { allowed = unrefused config old shows.frames lost i keep shows.shows below count_here can stays; busy = refl },
        (
          losing_of config cut (lost ++ i ∷ []),
          loss_happens config shows.frames lost i (keep_of i keep) nowhere below stays shows.seen (keeps_so config old shows.frames lost i keep shows.shows below count_here stays can),
          record {
            frames = cut;
            shows = shown_cut config old shows.frames lost i keep shows.shows new formed nodes account here others;
            seen = λ x p pair has. ap (λ (l : List ℕ). is_lost l p) more
                ∙ seen_more config shows.frames lost i (keep_of i keep) nowhere below stays shows.seen (keeps_so config old shows.frames lost i keep shows.shows below count_here stays can) x p pair has;
            is = ap (losing_of config cut) (sym more);
          },
        ),
      )
    where
      nowhere : (y : ℕ) → is_pair (length config) i y ≡ false → shows.frames.wire i y ≡ []
      nowhere y none = shows.shows.traffic.nodes.nowhere i y none

      cut : TimedFrameWorld
      cut = packets_cut config old shows.frames lost i keep shows.shows
