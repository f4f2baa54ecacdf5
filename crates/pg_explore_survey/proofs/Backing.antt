-- Steps by which a world was met, one after another.
use Rattle.std.proofs.Common.{◌≡◌, ℕ, List, [], ◌∷◌, ◌++◌, Some, None, refl, ap, ◌∙◌}
use Rattle.pg_explore.specs.declared.explored.Met.{Met}
use Rattle.pg_explore_survey.specs.declared.hops.Stride.{Stride}
use Rattle.pg_explore_survey.specs.Runs.{AreBack, IsWayBack, met_by}

pub back_push : (mets : List Met) (place : ℕ) (strides : List Stride) (reached : ℕ) (stride : Stride) → AreBack mets place strides reached → met_by mets reached ≡ Some stride
    → AreBack mets place (strides ++ stride ∷ []) stride.place
back_push mets place [] reached stride h e = (ap (met_by mets) h ∙ e, refl)
back_push mets place (x ∷ xs) reached stride h e = (h.0, back_push mets x.place xs reached stride h.1 e)

pub back_end : (mets : List Met) (place : ℕ) (strides : List Stride) (reached : ℕ) → AreBack mets place strides reached → met_by mets reached ≡ None → IsWayBack mets place strides
back_end mets place [] reached h e = ap (met_by mets) h ∙ e
back_end mets place (x ∷ xs) reached h e = (h.0, back_end mets x.place xs reached h.1 e)
