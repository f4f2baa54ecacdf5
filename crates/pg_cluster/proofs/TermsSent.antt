-- Terms may cross threads.
use denote.Builtin
use denote.Hole.{as_row}
use denote.Hole.FixSend.{Sends, fix_send}
use denote.Param.Send.{IsSend, sendable}
use denote.Param.SendFields.{variants_send, as_row_send}
use denote.RattleType.{RattleType}
use denote.Struct.Field.{row_field, i64-field}
use Rattle.std.proofs.Crossing.{crosses}
use Rattle.pg_term.specs.contracts.atom.Atom as Atom
use Rattle.pg_term.specs.contracts.boxed.Boxed as Boxed
use Rattle.pg_term.specs.contracts.fields.Fields as Fields
use Rattle.pg_term.specs.contracts.items.Items as Items
use Rattle.pg_term.specs.contracts.pid.Pid as Pid
use Rattle.pg_term.specs.contracts.reference.Reference as Reference
use Rattle.pg_term.specs.contracts.term.Term as Term
use Rattle.pg_term.specs.contracts.term.Term.TheKnot as Knot

pub atom_send : IsSend Atom.the_row
atom_send = search (sendable, crosses) depth 30

pub pid_send : IsSend Pid.the_row
pid_send = search (sendable, crosses) depth 30

pub reference_send : IsSend Reference.the_row
reference_send = search (sendable, crosses) depth 30

pub boxed_send : (R : RattleType) → IsSend R → IsSend (Boxed.the_row R)
boxed_send R s = search (sendable, crosses) depth 30

pub items_send : (R : RattleType) → IsSend R → IsSend (Items.the_row R)
items_send R s = search (sendable, crosses) depth 30

pub fields_send : (R : RattleType) → IsSend R → IsSend (Fields.the_row R)
fields_send R s = search (sendable, crosses) depth 30

pub i64_send : IsSend i64-field.row
i64_send = search (sendable, crosses) depth 30

pub u8_send : IsSend Builtin.u8
u8_send = search (sendable, crosses) depth 30

-- one layer of a term may cross where its parts may
layer_send : (i : Knot.the_members) → Sends Term.the_ring i
layer_send = Term.by_members (λ i. Sends Term.the_ring i) (record {
  send = λ h all. variants_send (Knot.type-Term (h Term.the_member) (h Term.the_member)) (
    (as_row_send (row_field (as_row i64-field)) (as_row_send i64-field i64_send), tt),
    (
      (as_row_send (row_field (as_row Atom.the_field)) (as_row_send Atom.the_field atom_send), tt),
      (
        (as_row_send (row_field (as_row (Boxed.the_field Reference.the_row))) (as_row_send (Boxed.the_field Reference.the_row) (boxed_send Reference.the_row reference_send)), tt),
        (
          (as_row_send (row_field (as_row Pid.the_field)) pid_send, tt),
          (
            (as_row_send (row_field (Fields.the_row (h Term.the_member))) (fields_send (h Term.the_member) (all Term.the_member)), tt),
            (
              (as_row_send (row_field (Items.the_row (h Term.the_member))) (items_send (h Term.the_member) (all Term.the_member)), tt),
              ((as_row_send (row_field (as_row (Items.the_field Builtin.u8))) (as_row_send (Items.the_field Builtin.u8) (items_send Builtin.u8 u8_send)), tt), tt),
            ),
          ),
        ),
      ),
    ),
  );
})

hole_send : IsSend Term.the_hole
hole_send = fix_send Term.the_ring layer_send Term.the_member

pub term_send : IsSend Term.the_row
term_send = variants_send Term.enum (
  (as_row_send i64-field i64_send, tt),
  (
    (as_row_send Atom.the_field atom_send, tt),
    (
      (as_row_send (Boxed.the_field Reference.the_row) (boxed_send Reference.the_row reference_send), tt),
      (
        (pid_send, tt),
        (
          (as_row_send (row_field (Fields.the_row Term.the_hole)) (fields_send Term.the_hole hole_send), tt),
          (
            (as_row_send (row_field (Items.the_row Term.the_hole)) (items_send Term.the_hole hole_send), tt),
            ((as_row_send (Items.the_field Builtin.u8) (items_send Builtin.u8 u8_send), tt), tt),
          ),
        ),
      ),
    ),
  ),
)
