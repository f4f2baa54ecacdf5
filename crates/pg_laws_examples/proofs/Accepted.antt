-- The configurations of the worked examples are such as a world accepts.
use Rattle.std.proofs.Common.{◌≡◌, true, [], ◌∷◌, refl, arith}
use Rattle.std.specs.List.{IsDistinct}
use Rattle.pg_term.specs.declared.term.Term.{Term}
use Rattle.pg_term.specs.Same.{same_atom, same_term}
use Rattle.pg_laws.specs.PgMessageTypes.Name.{is_name}
use Rattle.pg_laws.specs.PgStep.Config.{IsConfig}
use Rattle.pg_laws_examples.specs.Examples.{a, b, c, one_node, two_nodes, two_and_member}
use Rattle.pg_laws_examples.specs.Examples.{two_tables, three_nodes, three_tables}

two_apart : IsDistinct same_atom (a ∷ b ∷ [])
unfolding IsDistinct
two_apart = ((refl, tt), (tt, tt))

three_apart : IsDistinct same_atom (a ∷ b ∷ c ∷ [])
unfolding IsDistinct
three_apart = ((refl, (refl, tt)), ((refl, tt), (tt, tt)))

none : IsDistinct same_term []
unfolding IsDistinct
none = tt

one : (g : Term) → IsDistinct same_term (g ∷ [])
unfolding IsDistinct
one g = (tt, tt)

one_apart : IsDistinct same_atom (a ∷ [])
unfolding IsDistinct
one_apart = (tt, tt)

pub one_accepted : IsConfig one_node
one_accepted = record {
  some = omega arith;
  few = omega arith;
  apart = one_apart;
  starts = (record { ports = omega arith; made = omega arith; groups = none; names = tt; members = tt }, tt);
}

pub two_accepted : IsConfig two_nodes
two_accepted = record {
  some = omega arith;
  few = omega arith;
  apart = two_apart;
  starts = (
    record { ports = omega arith; made = omega arith; groups = none; names = tt; members = tt },
    (record { ports = omega arith; made = omega arith; groups = none; names = tt; members = tt }, tt),
  );
}

pub three_accepted : IsConfig three_nodes
three_accepted = record {
  some = omega arith;
  few = omega arith;
  apart = three_apart;
  starts = (
    record { ports = omega arith; made = omega arith; groups = none; names = tt; members = tt },
    (
      record { ports = omega arith; made = omega arith; groups = none; names = tt; members = tt },
      (record { ports = omega arith; made = omega arith; groups = none; names = tt; members = tt }, tt),
    ),
  );
}

module _ (g : Term) (named : is_name g ≡ true) where
  pub member_accepted : IsConfig (two_and_member g)
  member_accepted = record {
    some = omega arith;
    few = omega arith;
    apart = two_apart;
    starts = (
      record { ports = omega arith; made = omega arith; groups = one g; names = (named, tt); members = ((refl, tt), tt) },
      (record { ports = omega arith; made = omega arith; groups = none; names = tt; members = tt }, tt),
    );
  }

  pub two_tables_accepted : IsConfig (two_tables g)
  two_tables_accepted = record {
    some = omega arith;
    few = omega arith;
    apart = two_apart;
    starts = (
      record { ports = omega arith; made = omega arith; groups = one g; names = (named, tt); members = ((refl, (refl, tt)), tt) },
      (record { ports = omega arith; made = omega arith; groups = one g; names = (named, tt); members = ((refl, (refl, tt)), tt) }, tt),
    );
  }

  pub three_tables_accepted : IsConfig (three_tables g)
  three_tables_accepted = record {
    some = omega arith;
    few = omega arith;
    apart = three_apart;
    starts = (
      record { ports = omega arith; made = omega arith; groups = one g; names = (named, tt); members = ((refl, (refl, tt)), tt) },
      (
        record { ports = omega arith; made = omega arith; groups = one g; names = (named, tt); members = ((refl, tt), tt) },
        (record { ports = omega arith; made = omega arith; groups = none; names = tt; members = tt }, tt),
      ),
    );
  }
