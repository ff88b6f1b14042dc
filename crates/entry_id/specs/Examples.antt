-- Texts on each side of a rule: proofs/ExamplesProof.antt proves them by computation. Statements only.
-- The marked examples of RULES B stand in one table, in the crate `examples`.
use Rattle.std.specs.Prelude.{◌≡◌, ℕ, true, false, List, [], ◌++◌, length, replicate}
use Prim.Native.Char.{code}
use Rattle.wire.specs.Bytes.{bytes}
use Rattle.entry_id.specs.Meaning.{meaning, valid, canon}
use Rattle.entry_id.specs.Profile.{profile_meaning, profile_valid, profile_canon}

pub record IdExamples : Type 0 where
  -- "`hip-a-b-c-d-:xnack+` is ID."
  pub no_processor : valid (bytes "hip-a-b-c-d-:xnack+") ≡ false
  pub three_fields : valid (bytes "hip-a-b") ≡ false
  pub four_fields : canon (bytes "hip-a-b-c") ≡ bytes "hip-a-b-c--"
  -- "Seven or more fields are no longer refused for their number."
  pub seven_fields : canon (bytes "hip-a-b-c-d-e-f") ≡ bytes "hip-a-b-c-d-e-f"
  pub stated_twice : valid (bytes "hip-a-b-c-gfx1:xnack+:xnack-") ≡ false
  pub unsigned : valid (bytes "hip-a-b-c-gfx1:xnack") ≡ false
  -- "The canonical form keeps the kind as spelled"
  pub kept_kind : canon (bytes "hipv4-a-b-c") ≡ bytes "hipv4-a-b-c--"
  pub other_kind : valid (bytes "cuda-a-b-c") ≡ false
  pub empty_vendor : valid (bytes "hip-a--c") ≡ false
  -- "if the fifth field begins with `gfx` or `sm_`, the processor starts there and runs, hyphens included, .. and the environment is empty"
  pub generic : canon (bytes "hip-amdgcn-amd-amdhsa-gfx9-generic") ≡ bytes "hip-amdgcn-amd-amdhsa--gfx9-generic"
  pub generic_again : canon (bytes "hip-amdgcn-amd-amdhsa--gfx9-generic") ≡ bytes "hip-amdgcn-amd-amdhsa--gfx9-generic"
  pub sm_fifth : canon (bytes "hip-a-b-c-sm_70-x") ≡ bytes "hip-a-b-c--sm_70-x"
  pub no_environment : (meaning (bytes "hip-a-b-c-gfxenv-gfx906")).environment ≡ []
  pub two_in_one : (meaning (bytes "hip-a-b-c-gfxenv-gfx906")).processor ≡ bytes "gfxenv-gfx906"
  pub two_form : canon (bytes "hip-a-b-c-gfxenv-gfx906") ≡ bytes "hip-a-b-c--gfxenv-gfx906"
  -- "Otherwise the sixth field starts it and it runs on likewise."
  pub sixth_environment : (meaning (bytes "hip-a-b-c-gnu-gfx9-generic")).environment ≡ bytes "gnu"
  pub sixth_processor : (meaning (bytes "hip-a-b-c-gnu-gfx9-generic")).processor ≡ bytes "gfx9-generic"
  pub sixth_form : canon (bytes "hip-a-b-c-gnu-gfx9-generic") ≡ bytes "hip-a-b-c-gnu-gfx9-generic"
  pub not_quite : (meaning (bytes "hip-a-b-c-gf-x-y")).environment ≡ bytes "gf"
  pub not_quite_form : canon (bytes "hip-a-b-c-gf-x-y") ≡ bytes "hip-a-b-c-gf-x-y"
  -- "to the first `:` or the end"
  pub with_feature : canon (bytes "hip-a-b-c-gfx9-generic:xnack-") ≡ bytes "hip-a-b-c--gfx9-generic:xnack-"
  -- "an empty sixth means no processor"
  pub no_sixth : (meaning (bytes "hip-a-b-c-gnu-")).processor ≡ []
  pub no_sixth_form : canon (bytes "hip-a-b-c-gnu-") ≡ bytes "hip-a-b-c-gnu-"
  -- "A processor neither begins nor ends with a hyphen."
  pub gfxenv_refused : valid (bytes "hip-a-b-c-gfxenv-") ≡ false
  pub hyphen_alone : valid (bytes "hip-a-b-c-gnu--") ≡ false
  pub hyphen_first : valid (bytes "hip-a-b-c-gnu--x") ≡ false
  pub hyphen_last : valid (bytes "hip-a-b-c-gnu-x-") ≡ false
  pub hyphen_colon : valid (bytes "hip-a-b-c-gfx9-:xnack-") ≡ false
  pub hyphens_inside : canon (bytes "hip-a-b-c-gfx9--x") ≡ bytes "hip-a-b-c--gfx9--x"

-- an ID for one of our cards with an environment of n letters and the processor p
unfoldable pub long_id : ℕ → List ℕ → List ℕ
long_id n p = bytes "hip-amdgcn-amd-amdhsa-" ++ replicate n (code "e") ++ bytes "-" ++ p

-- IDs by the profile's rules
pub record ProfileExamples : Type 0 where
  -- "An alternative name means its primary, and the canonical form writes the primary."
  pub alternative : profile_canon (bytes "hip-amdgcn-amd-amdhsa--tonga") ≡ bytes "hip-amdgcn-amd-amdhsa--gfx802"
  pub means_primary : profile_meaning (bytes "hip-amdgcn-amd-amdhsa--fiji") ≡ profile_meaning (bytes "hip-amdgcn-amd-amdhsa-gfx803")
  pub first_row : profile_canon (bytes "openmp-amdgcn-amd-amdhsa--tahiti") ≡ bytes "openmp-amdgcn-amd-amdhsa--gfx600"
  pub last_row : profile_canon (bytes "hipv4-amdgcn-amd-amdhsa-gfx12-generic") ≡ bytes "hipv4-amdgcn-amd-amdhsa--gfx12-generic"
  -- "The field rule stays, so an alternative name stands in the sixth field": in the fifth it is an environment
  pub fifth : profile_canon (bytes "hip-amdgcn-amd-amdhsa-tonga") ≡ bytes "hip-amdgcn-amd-amdhsa-tonga-"
  -- "An unknown processor or an unsupported feature (any other name too) gets ID"
  pub unknown : profile_valid (bytes "hip-amdgcn-amd-amdhsa-gfx999") ≡ false
  pub longer : profile_valid (bytes "hip-amdgcn-amd-amdhsa--tonga-x") ≡ false
  pub capital : profile_valid (bytes "hip-amdgcn-amd-amdhsa-gfx90A") ≡ false
  pub unsupported : profile_valid (bytes "openmp-amdgcn-amd-amdhsa-gfx900:sramecc+") ≡ false
  pub other_feature : profile_valid (bytes "hipv4-amdgcn-amd-amdhsa-gfx90a:foo+") ≡ false
  pub second_feature : profile_valid (bytes "hip-amdgcn-amd-amdhsa-gfx900:xnack+:sramecc+") ≡ false
  pub generic_xnack : profile_canon (bytes "hip-amdgcn-amd-amdhsa-gfx9-generic:xnack+") ≡ bytes "hip-amdgcn-amd-amdhsa--gfx9-generic:xnack+"
  pub generic_none : profile_valid (bytes "hip-amdgcn-amd-amdhsa-gfx11-generic:xnack+") ≡ false
  pub supported : profile_canon (bytes "hipv4-amdgcn-amd-amdhsa-gfx90a:xnack+:sramecc-") ≡ bytes "hipv4-amdgcn-amd-amdhsa--gfx90a:sramecc-:xnack+"
  -- "the 256-byte limit is on the form written with the primary": two bytes longer with `gfx803` than with `fiji`, three shorter than with `polaris10`
  pub limit : profile_canon (long_id 227 (bytes "fiji")) ≡ long_id 227 (bytes "gfx803")
  pub limit_size : length (long_id 227 (bytes "gfx803")) ≡ 256
  pub above : profile_valid (long_id 228 (bytes "fiji")) ≡ false
  pub above_general : valid (long_id 228 (bytes "fiji")) ≡ true
  pub shorter : profile_canon (long_id 224 (bytes "polaris10")) ≡ long_id 224 (bytes "gfx803")
  -- "All other IDs read as before."
  pub host : profile_canon (bytes "host-amdgcn-amd-amdhsa--tonga") ≡ bytes "host-amdgcn-amd-amdhsa--tonga"
  pub other_arch : profile_canon (bytes "hip-amdgcn1-amd-amdhsa--tonga:foo+") ≡ bytes "hip-amdgcn1-amd-amdhsa--tonga:foo+"
  pub no_processor : profile_canon (bytes "hip-amdgcn-amd-amdhsa") ≡ bytes "hip-amdgcn-amd-amdhsa--"
