-- The first three bytes of a dependency descriptor (AV1's RTP payload format, A.8) as C is told of them, and as C gives them.
use Rattle.std.specs.Prelude.{◌≡◌, ◌<◌, List, ℕ}
use Rattle.rtp_base.specs.Flag.{bit}
use Rattle.rtp_values.specs.StandardDescriptor.{descriptor_bytes}
use Rattle.rtp_values.specs.declared.standard.dependency_descriptor.DependencyDescriptor.{DependencyDescriptor}
use Rattle.rtp_c.specs.Given.{is_nonzero}
use Rattle.rtp_c.specs.declared.standard.dependency_descriptor.DescriptorView.{DescriptorView}

-- what C is told of a descriptor
pub record IsViewOfDescriptor (descriptor : DependencyDescriptor) (view : DescriptorView) : Type 0 where
  pub start_is : view.start_of_frame ≡ bit descriptor.start_of_frame
  pub end_is : view.end_of_frame ≡ bit descriptor.end_of_frame
  pub template_is : view.template_id ≡ descriptor.template_id
  pub number_is : view.frame_number ≡ descriptor.frame_number

-- the descriptor that is given
abbrev pub given_descriptor : DescriptorView → DependencyDescriptor
given_descriptor view = record {
  start_of_frame = is_nonzero view.start_of_frame;
  end_of_frame = is_nonzero view.end_of_frame;
  template_id = view.template_id;
  frame_number = view.frame_number;
}

-- its data
pub record AreDescriptorData (view : DescriptorView) (bytes : List ℕ) : Type 0 where
  pub template_fits : view.template_id < 64
  pub bytes_are : bytes ≡ descriptor_bytes (given_descriptor view)
