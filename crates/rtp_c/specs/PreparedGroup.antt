-- The elements of a group that C prepares: each of an id and a length, with zeros in the place of the data that a receiver brings (RFC 8285, 4.2 and 4.3).
use Rattle.std.specs.Prelude.{◌≡◌, ℕ, ◌≤◌, List, length, map, replicate, Option}
use Rattle.std.specs.List.{All}
use Rattle.rtp_ext.specs.declared.form.ExtensionsForm.{ExtensionsForm}
use Rattle.rtp_ext.specs.Elements.{Element}
use Rattle.rtp_c.specs.declared.packet.ElementView.{ElementView}
use Rattle.rtp_c.specs.PacketView.{form_number}

-- the elements, each of the id and with as many zeros as the data that are named
abbrev pub blank_views : List ElementView → List Element
blank_views views = map (λ view. (view.id, replicate view.data_len 0)) views

-- these say which ids and lengths a group's elements have: at most sixteen, of at most 255 bytes of data each, and by its number the form that is allowed
pub record NamesShapes (views : List ElementView) (number : ℕ) (form : Option ExtensionsForm) : Type 0 where
  pub form_is : form_number form ≡ number
  pub short : All (λ view. view.data_len ≤ 255) views
  pub few : length views ≤ 16
