pub mod DescriptorStages
