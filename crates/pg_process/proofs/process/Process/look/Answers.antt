use Rattle.std.proofs.Common.{◌<◌, [], ℕ, length, append-nil, refl, sym, ap, arith}
use Rattle.pg_node_process.specs.declared.retries.Courtesy.{Courtesy}
use Rattle.pg_node_process.specs.Retries.{after_look, at_first}
use Rattle.pg_process.specs.Situations.{situation_of}
use Rattle.pg_process.proofs.Placed.{one_seen}
use Rattle.pg_process.proofs.process.Process.look.Goals as goal

pub returns : goal.returns
returns c =
    let a = c.args.self.now in
    let within : c.args.port < length a.courtesies.items = omega (arith, c.requires, a.all_courtesies) in record {
      made = record {
        said = [];
        does = (
          refl,
          c.seen-seen.ensures,
          ap (λ (cs : ℕ → Courtesy). record (situation_of a) { courtesies = cs })
              (one_seen (λ c. c) at_first a.courtesies.items c.args.port c.index_mut.result.now c.look.new.self (after_look c.seen-seen.result c.args.is_tick) within
              c.index_mut.ensures.value c.look.ensures.value),
        );
        heard = tt;
        gathered = sym (append-nil a.outlet.gathered.items);
        journal = sym (append-nil a.journal.gathered.items);
        setting = refl;
      };
    }
