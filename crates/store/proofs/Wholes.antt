-- The whole tables that the texts ask for.
use Rattle.store.proofs.Names.{Schema, executed_tree, held_tree, spans_tree, follow_tree, meta_tree, HasMeta, IsLaidOut, IsFirstLaidOut, AsksAll, all_meta_text, all_held_text}
use Rattle.store.specs.Load.{all_spans_text, all_follow_text, all_executed_text}
use Rattle.store.proofs.AnyWhole.{all_meta_asks, all_executed_asks, all_held_asks, all_spans_asks, all_follow_asks}

-- ---- of layout 1

module _ (schema : Schema) (l : IsFirstLaidOut schema) where
  pub first_executed : AsksAll schema all_executed_text (executed_tree schema)
  first_executed = all_executed_asks schema l.executed.at (executed_tree schema) l.executed.found

  pub first_held : AsksAll schema all_held_text (held_tree schema)
  first_held = all_held_asks schema l.held.at (held_tree schema) l.held.found

-- ---- of layout 2

pub meta_asks : (schema : Schema) → HasMeta schema → AsksAll schema all_meta_text (meta_tree schema)
meta_asks schema m = all_meta_asks schema m.at (meta_tree schema) m.found

module _ (schema : Schema) (l : IsLaidOut schema) where
  pub held_asks : AsksAll schema all_held_text (held_tree schema)
  held_asks = all_held_asks schema l.held.at (held_tree schema) l.held.found

  pub spans_asks : AsksAll schema all_spans_text (spans_tree schema)
  spans_asks = all_spans_asks schema l.spans.at (spans_tree schema) l.spans.found

  pub follow_asks : AsksAll schema all_follow_text (follow_tree schema)
  follow_asks = all_follow_asks schema l.follow.at (follow_tree schema) l.follow.found
