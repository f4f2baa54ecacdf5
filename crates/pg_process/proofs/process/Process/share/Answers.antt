use Rattle.std.proofs.Common.{◌<◌, [], ℕ, length, append-nil, refl, sym, ap, arith}
use Rattle.pg_node_process.specs.declared.retries.Courtesy.{Courtesy}
use Rattle.pg_node_process.specs.Retries.{after_share, at_first}
use Rattle.pg_process.specs.Situations.{situation_of}
use Rattle.pg_process.proofs.Placed.{one_seen}
use Rattle.pg_process.proofs.process.Process.share.Goals as goal

pub returns : goal.returns
returns c =
    let a = c.args.self.now in
    let within : c.args.port < length a.courtesies.items = omega (arith, c.requires, a.all_courtesies) in record {
      said = [];
      does = (
        refl,
        ap (λ (cs : ℕ → Courtesy). record (situation_of a) { courtesies = cs })
            (one_seen (λ c. c) at_first a.courtesies.items c.args.port c.index_mut.result.now c.share.new.self after_share within c.index_mut.ensures.value c.share.ensures.value),
      );
      heard = tt;
      gathered = sym (append-nil a.outlet.gathered.items);
      journal = sym (append-nil a.journal.gathered.items);
      setting = refl;
    }
