-- The frame marking (RFC 9626, 3) as C is told of it, and as C gives it.
use Rattle.std.specs.Prelude.{◌≡◌, List, ℕ, Some}
use Rattle.std.specs.Option.{option_map, option_and_then}
use Rattle.rtp_base.specs.Flag.{bit}
use Rattle.rtp_values.specs.StandardMarking.{marking_data}
use Rattle.rtp_values.specs.declared.standard.frame_marking.FrameMarking.{FrameMarking}
use Rattle.rtp_c.specs.Told.{IsTold}
use Rattle.rtp_c.specs.Given.{is_nonzero, given}
use Rattle.rtp_c.specs.declared.standard.frame_marking.MarkingView.{MarkingView}

-- what C is told of a marking
pub record IsViewOfMarking (marking : FrameMarking) (view : MarkingView) : Type 0 where
  pub start_is : view.start ≡ bit marking.start
  pub end_is : view.end ≡ bit marking.end
  pub independent_is : view.independent ≡ bit marking.independent
  pub discardable_is : view.discardable ≡ bit marking.discardable
  pub sync_is : IsTold view.has_layers view.base_layer_sync (option_map (λ layers. bit layers.base_layer_sync) marking.layers)
  pub temporal_id_is : IsTold view.has_layers view.temporal_id (option_map (λ layers. layers.temporal_id) marking.layers)
  pub layer_id_is : IsTold view.has_layers view.layer_id (option_map (λ layers. layers.layer_id) marking.layers)
  pub index_is : IsTold view.has_tl0_pic_idx view.tl0_pic_idx (option_and_then (λ layers. layers.tl0_pic_idx) marking.layers)

-- the marking that is given
abbrev pub given_marking : MarkingView → FrameMarking
given_marking view = record {
  start = is_nonzero view.start;
  end = is_nonzero view.end;
  independent = is_nonzero view.independent;
  discardable = is_nonzero view.discardable;
  layers = given view.has_layers (record {
    base_layer_sync = is_nonzero view.base_layer_sync;
    temporal_id = view.temporal_id;
    layer_id = view.layer_id;
    tl0_pic_idx = given view.has_tl0_pic_idx view.tl0_pic_idx;
  });
}

-- its data
abbrev pub AreMarkingData : MarkingView → List ℕ → Type 0
AreMarkingData view bytes = marking_data (given_marking view) ≡ Some bytes
